-- Taken out, the check leaves this goal open.
use Rattle.std.proofs.Common.{◌∙◌}
use Rattle.kinds.proofs.Ends.{newest_get, picks_newest}
use Rattle.kinds.proofs.orders.newest.Goals as goal

pub returns : goal.returns
returns c =
    let value = c.copied.ensures ∙ c.last.ensures.value ∙ newest_get c.args.held.now in
    record { value = value; picks = rw value (picks_newest c.args.held.now) }
