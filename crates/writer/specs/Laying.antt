-- Fields written one after the other into bytes.
use Rattle.std.specs.Prelude.{◌≡◌, ℕ, ◌+◌, ◌^◌, ◌<◌, ◌≤◌, ◌⊎◌, List, length, replicate}
use Rattle.bits.specs.Bits.{bit_at, reach}
use Rattle.recording.specs.Layout.{Field, Laid, bits, gap, span}
use Rattle.std.specs.List.{AllByRecursion}
use Rattle.writer.specs.declared.bit_writer.BitWriter.{BitWriter}

-- the value of a field has no more bits than the field
abbrev pub Fits : Field → Type 0
Fits f = f.value < 2 ^ f.width

-- the writer has room for the fields fs, and each value fits its field
pub record Ready (w : BitWriter) (fs : List Field) : Type 0 where
  pub fits : AllByRecursion Fits fs
  pub room : w.place + span fs ≤ reach w.bytes.now

-- the writer has written the fields fs where it stood, and stands after them; it still holds the same bytes, whose other
-- bits stay
pub record LaidOver (old new : BitWriter) (fs : List Field) : Type 0 where
  pub same_reference : new.bytes.ghost_name ≡ old.bytes.ghost_name
  pub laid : Laid new.bytes.now old.place fs
  pub end : new.place ≡ old.place + span fs
  pub others : (k : ℕ) → (k < old.place) ⊎ (new.place ≤ k) → bit_at new.bytes.now k ≡ bit_at old.bytes.now k
  pub long : length new.bytes.now ≡ length old.bytes.now

-- the filling after a field that ends before bit p, as fields of one bit
abbrev pub filling_fields : ℕ → List Field
filling_fields p = replicate (gap p) (bits 1 0)
