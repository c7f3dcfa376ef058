use Rattle.std.proofs.Common.{◌≡◌, [], length, take, replicate}
use Rattle.kinds.proofs.table.Table.clear.Given as goal

abbrev pub invariant-loop-lane : goal.invariant-loop-lane
invariant-loop-lane l = record {
  all : length l.self.lanes.items ≡ l.count;
  emptied : take l.lane l.self.lanes.items ≡ replicate l.lane [];
}
