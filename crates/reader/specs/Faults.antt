-- The number and the place of each fault of a file.
use Rattle.bits.specs.declared.told.Place.TheVariants.{AtBit}
use Rattle.bits.specs.declared.told.Told.{Told}
use Rattle.bits.specs.Told.{bit_told, told}
use Rattle.recording.specs.Faults.{field_told}
use Rattle.reader.specs.declared.fault.ReadFault.{ReadFault}
use Rattle.reader.specs.declared.fault.ReadFault.TheVariants.{Bit, Field, Filling}

abbrev pub read_told : ReadFault → Told
read_told (Bit e) = bit_told e
read_told (Field e) = field_told e
read_told (Filling bit) = told 3 (AtBit bit)
