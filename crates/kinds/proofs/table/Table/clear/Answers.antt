-- Taken out, the check leaves this goal open.
use Rattle.std.proofs.Common.{◌≡◌, [], length, arith}
use Rattle.std.specs.Prelude.{slice_set}
use Rattle.std.specs.List.{refill}
use Rattle.std.proofs.lemmas.Grind.{common_steps}
use Rattle.kinds.proofs.Tables.{table_emptied}
use Rattle.kinds.proofs.table.Table.clear.Goals as goal

pub invariant_of-self : goal.invariant_of-self
invariant_of-self c =
    let held = c.loop-lane.self.lanes.items in
    let lane = c.loop-lane.lane in
    let after : refill (length held) held (slice_set c.deref_mut.result.now lane c.clear.new.self) ≡ slice_set held lane [] = grind (arith, common_steps) in
    record { sound = rw after (table_emptied held lane c.loop-lane.self.sound) }
