-- Taken out, the check leaves this goal open.
use Rattle.std.proofs.Common.{rules}
use Rattle.writer.proofs.Lays.{filling_more}
use Rattle.writer.proofs.bit_writer.BitWriter.fill.Goals as goal

pub loop-self-preserved : goal.loop-self-preserved
loop-self-preserved c = search (rules, filling_more)
