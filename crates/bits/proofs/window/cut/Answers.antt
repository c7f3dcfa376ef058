-- Taken out, the check leaves this goal open.
use Rattle.std.proofs.Common.{◌≡◌, ◌+◌, ◌-◌, ◌*◌, ◌/◌, ◌%◌, arith}
use Rattle.std.proofs.lemmas.Nat.{and_mask}
use Rattle.bits.specs.Widths.{bits_of}
use Rattle.bits.proofs.Spells.{spelled_cut}
use Rattle.bits.proofs.Widths.{bits_of_most}
use Rattle.bits.proofs.window.cut.Goals as goal

pub returns : goal.returns
returns c =
    let bs = c.args.bytes.now in
    let p = c.args.place in
    let w = bits_of c.args.width in
    let m = bits_of_most c.args.width in
    let t = 24 - p % 8 - w in
    let n : p % 8 + w + (24 - p % 8 - w) ≡ 24 = omega arith in
    let q : 8 * (p / 8) + p % 8 ≡ p = omega arith in
    rw (c.shift.ensures, c.mask.ensures, and_mask, c.window.ensures) (rw (n, q) at (spelled_cut bs (8 * (p / 8)) (p % 8) w t))
