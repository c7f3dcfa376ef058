-- The number of bits of each width.
use Rattle.std.specs.Prelude.{ℕ}
use Rattle.bits.specs.declared.width.Width.{Width}
use Rattle.bits.specs.declared.width.Width.TheVariants.{One, Three, Four, Nine, Ten, Eleven, Twelve}

abbrev pub bits_of : Width → ℕ
bits_of One = 1
bits_of Three = 3
bits_of Four = 4
bits_of Nine = 9
bits_of Ten = 10
bits_of Eleven = 11
bits_of Twelve = 12
