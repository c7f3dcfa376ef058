-- What a refusal tells: its number and its place.
use Rattle.std.specs.Prelude.{ℕ}
use Rattle.bits.specs.declared.told.Place.{Place}
use Rattle.bits.specs.declared.told.Place.TheVariants.{AtBit}
use Rattle.bits.specs.declared.told.Told.{Told}
use Rattle.bits.specs.declared.fault.BitFault.{BitFault}
use Rattle.bits.specs.declared.fault.BitFault.TheVariants.{Ends}

abbrev pub told : ℕ → Place → Told
told n p = record { number = n; place = p }

abbrev pub bit_told : BitFault → Told
bit_told (Ends bit) = told 1 (AtBit bit)
