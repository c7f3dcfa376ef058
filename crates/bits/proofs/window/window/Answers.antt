-- Taken out, the check leaves this goal open.
use Rattle.std.proofs.Common.{sym, ◌∙◌}
use Rattle.bits.proofs.Windows.{three_bytes, or_three}
use Rattle.bits.proofs.window.window.Goals as goal

pub returns : goal.returns
returns c =
    let bs = c.args.bytes.now in
    let i = c.args.first in
    rw (c.byte.ensures, c.byte-2.ensures, c.byte-3.ensures)
    (or_three _ _ _ (c.type_inv.bytes i).fits (c.type_inv.bytes _).fits (c.type_inv.bytes _).fits ∙ sym (three_bytes bs i (λ k. (c.type_inv.bytes k).fits)))
