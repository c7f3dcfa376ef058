-- Taken out, the check leaves this goal open.
use Rattle.reader.proofs.Files.{read_whole}
use Rattle.reader.proofs.fill.Goals as goal

pub returns : goal.returns
returns c = read_whole _ _ _ (rw c.new.ensures.bytes at c.read_recording.ensures)
