-- What becomes of a file while nothing judges by a bank here: no station has a lane.
use Rattle.std.specs.Prelude.{Ok, Err, Result}
use Rattle.bits.specs.declared.told.Place.TheVariants.{AtEntry}
use Rattle.bits.specs.declared.told.Told.{Told}
use Rattle.bits.specs.Told.{told}
use Rattle.recording.specs.Record.{all_zero}
use Rattle.recording.specs.declared.record.Recording.{Recording}

-- of a file that cannot be read, its own fault; of any other, that the first station has no lane
abbrev pub refusal : Result Recording Told → Told
refusal (Ok _) = told 10 (AtEntry 0 0)
refusal (Err t) = t

-- the recording that was read, or a record that is zero throughout
abbrev pub record_left : Result Recording Told → Recording
record_left (Ok r) = r
record_left (Err _) = all_zero
