use Rattle.std.proofs.Common.{◌≡◌, [], replicate}
use Rattle.kinds.proofs.table.Table.narrow.Given as goal

abbrev pub invariant-loop : goal.invariant-loop
invariant-loop l = l.self.lanes.items ≡ replicate l.counter []
