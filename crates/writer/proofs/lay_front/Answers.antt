-- Taken out, the check leaves this goal open.
use Rattle.writer.proofs.Files.{front_written}
use Rattle.writer.proofs.lay_front.Goals as goal

pub returns : goal.returns
returns c =
    front_written c.args.recording.now c.args.size c.args.buffer.now c.lay_file.new.bytes c.requires.limits c.requires.size c.requires.room c.lay_file.ensures
    (λ i. (c.type_inv.buffer i).fits)
