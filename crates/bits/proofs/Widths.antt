use Rattle.std.proofs.Common.{◌≤◌, lit≤}
use Rattle.bits.specs.declared.width.Width.{Width}
use Rattle.bits.specs.declared.width.Width.TheVariants.{One, Three, Four, Nine, Ten, Eleven, Twelve}
use Rattle.bits.specs.Widths.{bits_of}

-- no width is above 12 bits
pub bits_of_most : (w : Width) → bits_of w ≤ 12
bits_of_most One = lit≤ tt
bits_of_most Three = lit≤ tt
bits_of_most Four = lit≤ tt
bits_of_most Nine = lit≤ tt
bits_of_most Ten = lit≤ tt
bits_of_most Eleven = lit≤ tt
bits_of_most Twelve = lit≤ tt
