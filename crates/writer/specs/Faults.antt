-- The number and the place of each fault of a writing.
use Rattle.bits.specs.declared.told.Place.TheVariants.{Needs}
use Rattle.bits.specs.declared.told.Told.{Told}
use Rattle.bits.specs.Told.{told}
use Rattle.recording.specs.Faults.{field_told}
use Rattle.writer.specs.declared.fault.WriteFault.{WriteFault}
use Rattle.writer.specs.declared.fault.WriteFault.TheVariants.{Field, Short}

abbrev pub write_told : WriteFault → Told
write_told (Field e) = field_told e
write_told (Short needed) = told 17 (Needs needed)
