-- Taken out, the check leaves this goal open.
use Rattle.std.proofs.Common.{◌∙◌}
use Rattle.bank.proofs.Orders.{any_holds}
use Rattle.kinds.proofs.orders.holds.Goals as goal

pub returns : goal.returns
returns c = c.contains.ensures.value ∙ any_holds c.args.held.now c.args.order
