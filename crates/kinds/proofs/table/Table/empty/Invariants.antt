use Rattle.std.proofs.Common.{◌≡◌, [], replicate}
use Rattle.kinds.proofs.table.Table.empty.Given as goal

abbrev pub invariant-loop : goal.invariant-loop
invariant-loop l = l.lanes.items ≡ replicate l.counter []
