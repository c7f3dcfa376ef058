-- Taken out, the check leaves these goals open.
use Rattle.std.proofs.Common.{sym, ◌∙◌}
use Rattle.kinds.proofs.Tables.{remove_at, without_nowhere}
use Rattle.kinds.proofs.lane.Lane.remove.Goals as goal

pub returns-in-Some : goal.returns-in-Some
returns-in-Some c =
    let at = rw c.orders.ensures.value at c.place_of.ensures in
    let items = rw c.self.view_is at c.remove.ensures.items in
    items ∙ remove_at _ c.args.order c.in-Some.place c.requires (sym at ∙ c.in-Some.is)

pub returns-in_default : goal.returns-in_default
returns-in_default c =
    let at = rw c.orders.ensures.value at c.place_of.ensures in
    sym (without_nowhere _ c.args.order c.requires (sym at ∙ c.in_default.is))
