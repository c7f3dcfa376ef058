use Rattle.std.proofs.Common.{drop}
use Rattle.std.specs.List.{flat_map}
use Rattle.writer.proofs.Lays.{Left}
use Rattle.writer.proofs.laying.lay_all.Given as goal

abbrev pub invariant-loop-item : goal.invariant-loop-item
invariant-loop-item g l = Left l.initial.into l.into (flat_map g.T.Lay.fields l.items) (flat_map g.T.Lay.fields (drop l.item-index l.items))
