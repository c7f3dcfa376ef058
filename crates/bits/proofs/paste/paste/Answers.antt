-- Taken out, the check leaves this goal open.
use Rattle.std.proofs.Common.{◌-◌, ◌%◌, ◌^◌, arith}
use lib.Pow.{ones_lt}
use Rattle.std.proofs.lemmas.Nat.{and_mask, mod_below, pow_pos, shl_whole}
use Rattle.bits.specs.Widths.{bits_of}
use Rattle.bits.proofs.Pastes.{pasted}
use Rattle.bits.proofs.Widths.{bits_of_most}
use Rattle.bits.proofs.paste.paste.Goals as goal

pub returns : goal.returns
returns c =
    let bs = c.args.bytes.now in
    let p = c.args.place in
    let w = bits_of c.args.width in
    let v = c.args.value in
    let t = 24 - p % 8 - w in
    let most = bits_of_most c.args.width in
    let m = and_mask v w in
    let hole = shl_whole (2 ^ w - 1) w t 32 (ones_lt w) (omega arith) in
    let field = shl_whole (v % 2 ^ w) w t 32 (mod_below v (2 ^ w) (pow_pos w)) (omega arith) in
    rw (c.put_window.ensures, c.cleared-around.ensures, c.shift-shift.ensures, c.window.ensures, c.from.ensures, c.mask-ones.ensures, m, hole, field)
    (pasted bs p w v most c.requires)
