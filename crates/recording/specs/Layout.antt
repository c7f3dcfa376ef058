-- The file of a recording: its fields, packed without gaps, and zero bits that fill the last byte.
use Rattle.std.specs.Prelude.{◌≡◌, ℕ, ◌+◌, ◌-◌, ◌*◌, ◌%◌, cond, List, [], ◌∷◌, ◌++◌, length}
use Rattle.std.specs.List.{flat_map}
use Rattle.bits.specs.Bits.{spelled}
use Rattle.recording.specs.declared.record.Event.{Event}
use Rattle.recording.specs.declared.record.Recording.{Recording}
use Rattle.recording.specs.Record.{carries, number_of, lineups_of, used_events}

-- a number in so many bits
pub record Field : Type 0 where
  pub width : ℕ
  pub value : ℕ

abbrev pub bits : ℕ → ℕ → Field
bits w v = record { width = w; value = v }

-- the bits of a list of fields
unfoldable pub span : List Field → ℕ
span [] = 0
span (f ∷ fs) = f.width + span fs

-- the fields stand one after the other from bit p on
unfoldable pub Laid : List ℕ → ℕ → List Field → Type 0
Laid bs p [] = Unit {0}
Laid bs p (f ∷ fs) = (spelled bs p f.width ≡ f.value) × Laid bs (p + f.width) fs

-- edition, code, stations, event count
abbrev pub header_fields : Recording → List Field
header_fields r = bits 4 1 ∷ bits 4 r.code ∷ bits 4 r.stations ∷ bits 11 r.count ∷ []

-- kind, station, and the order where the kind carries one
unfoldable pub event_fields : Event → List Field
event_fields e = bits 3 (number_of e.kind) ∷ bits 3 e.station ∷ cond (carries e.kind) (bits 12 e.order ∷ []) []

abbrev pub entry_fields : ℕ → List Field
entry_fields c = bits 9 c ∷ []

abbrev pub length_field : ℕ → Field
length_field n = bits 10 n

-- length, then the entries
unfoldable pub lineup_fields : List ℕ → List Field
lineup_fields l = length_field (length l) ∷ flat_map entry_fields l

unfoldable pub record_fields : Recording → List Field
record_fields r = header_fields r ++ (flat_map event_fields (used_events r) ++ flat_map lineup_fields (lineups_of r))

-- the most bits that the fields of a recording within the limits have
abbrev pub max_bits : ℕ
max_bits = 55399

-- how many bits fill the last byte after a field that ends before bit p
unfoldable pub gap : ℕ → ℕ
gap p = (8 - p % 8) % 8

-- the bytes are the file of the recording: its fields, zero bits that fill the last byte, and nothing else
pub record IsFile (bs : List ℕ) (r : Recording) : Type 0 where
  pub fields : Laid bs 0 (record_fields r)
  pub filling : spelled bs (span (record_fields r)) (gap (span (record_fields r))) ≡ 0
  pub whole : 8 * length bs ≡ span (record_fields r) + gap (span (record_fields r))
