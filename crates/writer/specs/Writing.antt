-- The writing of a recording to the front of a buffer.
use Rattle.std.specs.Prelude.{◌≡◌, ℕ, ◌+◌, ◌/◌, ◌<◌, ◌≤◌, ◌⊎◌, List, length, take, drop, Result, MatchResult, slice_index}
use Rattle.bits.specs.Told.{told}
use Rattle.bits.specs.declared.told.Place.TheVariants.{Needs}
use Rattle.bits.specs.declared.told.Told.{Told}
use Rattle.recording.specs.declared.record.Recording.{Recording}
use Rattle.recording.specs.Layout.{IsFile, record_fields, span}
use Rattle.recording.specs.Ranges.{Outside}
use Rattle.recording.specs.Record.{Limits}
use Rattle.writer.specs.declared.fault.WriteFault.{WriteFault}
use Rattle.writer.specs.Faults.{write_told}

-- how many bytes the file of a recording has
abbrev pub file_size : Recording → ℕ
file_size r = (span (record_fields r) + 7) / 8

-- the buffer was old and is new: its first n bytes are the file of r, which no other bytes are, and the others stay
pub record Written (r : Recording) (old new : List ℕ) (n : ℕ) : Type 0 where
  pub limits : Limits r
  pub size : n ≡ file_size r
  pub room : n ≤ length old
  pub file : IsFile (take n new) r
  pub only : (bs : List ℕ) → ((i : ℕ) → slice_index bs i < 256) → IsFile bs r → bs ≡ take n new
  pub rest : drop n new ≡ drop n old

-- the most bytes that a file has
abbrev pub max_size : ℕ
max_size = 6925

-- a recording within the limits, whose file has more bytes than there are; the size of the file is told
pub record TooLong (r : Recording) (bytes : ℕ) (t : Told) : Type 0 where
  pub limits : Limits r
  pub more : bytes < file_size r
  pub most : file_size r ≤ max_size
  pub tells : t ≡ told 17 (Needs (file_size r))

-- the recording is not written into so many bytes: it is not within the limits, or else it is too long
abbrev pub Unwritten : Recording → ℕ → Told → Type 0
Unwritten r bytes t = Outside r t ⊎ TooLong r bytes t

-- the writing of what was read from a file: in a buffer that was old and is new, the first bytes are that file again, as
-- many as are told, and the others stay; or the buffer is shorter than the file, which is told, and stays
abbrev pub Rewritten : List ℕ → List ℕ → List ℕ → Result ℕ WriteFault → Type 0
Rewritten file old new result = MatchResult result
    (λ n. (n ≡ length file) × (take n new ≡ file) × (drop n new ≡ drop n old))
    (λ e. (length old < length file) × (write_told e ≡ told 17 (Needs (length file))) × (new ≡ old))
