-- Each taken out, the check leaves its goal open.
use Rattle.std.proofs.Common.{rules}
use Rattle.writer.proofs.Files.{file_laid, ready_filling, ready_record}
use Rattle.writer.proofs.laying.lay_file.Goals as goal

pub lay_recording-requires-clause-ready : goal.lay_recording-requires-clause-ready
lay_recording-requires-clause-ready c = search (rules, ready_record)

pub fill-requires : goal.fill-requires
fill-requires c = search (rules, ready_filling)

pub returns : goal.returns
returns c = file_laid c.args.recording.now c.new-into.ensures.place c.new-into.ensures.bytes c.requires.whole c.lay_recording.ensures c.fill.ensures (search rules)
