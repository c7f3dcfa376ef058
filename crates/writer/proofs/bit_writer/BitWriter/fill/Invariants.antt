use Rattle.recording.specs.Layout.{gap}
use Rattle.writer.specs.Laying.{filling_fields}
use Rattle.writer.proofs.Lays.{Left}
use Rattle.writer.proofs.bit_writer.BitWriter.fill.Given as goal

abbrev pub invariant-loop-self : goal.invariant-loop-self
invariant-loop-self l = Left l.initial.self l.self (filling_fields l.initial.self.place) (filling_fields l.self.place)

abbrev pub decreases-loop-self : goal.decreases-loop-self
decreases-loop-self l = gap l.self.place
