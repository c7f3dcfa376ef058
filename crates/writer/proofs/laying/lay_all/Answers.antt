-- Each taken out, the check leaves its goal open.
use Rattle.std.proofs.Common.{rules}
use Rattle.writer.proofs.Lays.{item_ready, items_all, items_more}
use Rattle.writer.proofs.laying.lay_all.Goals as goal

pub lay-requires : goal.lay-requires
lay-requires g c = search (rules, item_ready g.T.Lay.fields)

pub loop-item-preserved : goal.loop-item-preserved
loop-item-preserved g c = search (rules, items_more g.T.Lay.fields)

pub returns : goal.returns
returns g c = search (rules, items_all g.T.Lay.fields)
