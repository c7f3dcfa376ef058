-- The number and the place of each fault of a field.
use Rattle.bits.specs.declared.told.Place.TheVariants.{AtBit}
use Rattle.bits.specs.declared.told.Told.{Told}
use Rattle.bits.specs.Told.{told}
use Rattle.recording.specs.declared.fault.FieldFault.{FieldFault}
use Rattle.recording.specs.declared.fault.FieldFault.TheVariants.{Range}

abbrev pub field_told : FieldFault → Told
field_told (Range bit) = told 2 (AtBit bit)
