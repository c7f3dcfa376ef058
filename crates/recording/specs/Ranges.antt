-- Ranges: what a record holds, tried in the sequence of its file, and the first of it that is outside its range.
use Rattle.std.specs.Prelude.{◌≡◌, ℕ, ◌+◌, ◌-◌, ◌≤◌, cond, ◌&&◌, List, [], ◌∷◌, ◌++◌, map, take, drop, Ok, Err, Result, MatchResult, nat_le, All}
use Rattle.std.specs.List.{flat_map}
use Rattle.bits.specs.Told.{told}
use Rattle.bits.specs.declared.told.Place.TheVariants.{AtBit}
use Rattle.bits.specs.declared.told.Told.{Told}
use Rattle.recording.specs.declared.fault.FieldFault.{FieldFault}
use Rattle.recording.specs.declared.record.Event.{Event}
use Rattle.recording.specs.declared.record.Recording.{Recording}
use Rattle.recording.specs.Faults.{field_told}
use Rattle.recording.specs.Layout.{Field, entry_fields, event_fields, header_fields, length_field, lineup_fields, record_fields, span}
use Rattle.recording.specs.Record.{Limits, carries, max_call, max_code, max_entries, max_events, max_kind, max_order, max_stations, number_of, total, used_events, used_lengths}

-- the first result, if it is a fault; else what follows from it
abbrev pub and_then : {X Y : Type 0} → Result X Told → (X → Result Y Told) → Result Y Told
and_then (Ok x) f = f x
and_then (Err e) f = Err e

-- a number from lo to hi, else fault 2 at bit p
unfoldable pub ranged : ℕ → ℕ → ℕ → ℕ → Result ℕ Told
ranged p lo hi v = cond (nat_le lo v && nat_le v hi) (Ok v) (Err (told 2 (AtBit p)))

-- ---- what is tried

-- a range: its lowest and its highest number
pub record Bounds : Type 0 where
  pub low : ℕ
  pub high : ℕ

abbrev pub between : ℕ → ℕ → Bounds
between lo hi = record { low = lo; high = hi }

-- a number of a record, its range, and the bit at which it is told where it is outside
pub record Tried : Type 0 where
  pub bit : ℕ
  pub bounds : Bounds
  pub value : ℕ

abbrev pub tried : ℕ → Bounds → ℕ → Tried
tried p b v = record { bit = p; bounds = b; value = v }

-- fields that stand one after the other from bit p on, each with its range, told where it stands
abbrev pub field_tries : ℕ → List Field → List Bounds → List Tried
field_tries p [] bs = []
field_tries p (f ∷ fs) [] = []
field_tries p (f ∷ fs) (b ∷ bs) = tried p b f.value ∷ field_tries (p + f.width) fs bs

-- edition, code, stations, event count
abbrev pub header_tries : Recording → List Tried
header_tries r = field_tries 0 (header_fields r) (between 1 1 ∷ between 0 max_code ∷ between 1 max_stations ∷ between 0 max_events ∷ [])

-- an event from bit p on: kind, station, and the order where the kind carries one; an order that is not carried must be
-- 0, comes after the station, and is told at the kind
unfoldable pub event_tries : ℕ → ℕ → Event → List Tried
event_tries stations p e =
    field_tries p (event_fields e) (between 0 max_kind ∷ between 0 (stations - 1) ∷ between 0 max_order ∷ [])
    ++ cond (carries e.kind) [] (tried p (between 0 0) e.order ∷ [])

-- an entry at bit p
abbrev pub entry_tries : ℕ → ℕ → List Tried
entry_tries p c = field_tries p (entry_fields c) (between 0 max_call ∷ [])

-- items whose fields follow one another from bit p on
unfoldable pub many_tries : {A : Type 0} → (ℕ → A → List Tried) → (A → List Field) → ℕ → List A → List Tried
many_tries tries fields p [] = []
many_tries tries fields p (x ∷ xs) = tries p x ++ many_tries tries fields (p + span (fields x)) xs

-- a line-up from bit p on: its length n, and the first n of the entries es
unfoldable pub lineup_tries : ℕ → ℕ → List ℕ → List Tried
lineup_tries p n es =
    field_tries p (length_field n ∷ []) (between 0 max_entries ∷ [])
    ++ many_tries entry_tries entry_fields (p + (length_field n).width) (take n es)

-- line-ups of these lengths, one after the other
unfoldable pub lineups_tries : ℕ → List ℕ → List ℕ → List Tried
lineups_tries p [] es = []
lineups_tries p (n ∷ ns) es = lineup_tries p n es ++ lineups_tries (p + span (lineup_fields (take n es))) ns (drop n es)

-- the numbers of an event
abbrev pub event_numbers : Event → List ℕ
event_numbers e = number_of e.kind ∷ e.station ∷ e.order ∷ []

-- the numbers in the places that are not in use
abbrev pub unused : Recording → List ℕ
unused r = flat_map event_numbers (drop r.count r.events) ++ (drop r.stations r.lengths ++ drop (total (used_lengths r)) r.entries)

-- numbers that must be zero, told at bit p
abbrev pub zero_tries : ℕ → List ℕ → List Tried
zero_tries p vs = map (λ v. tried p (between 0 0) v) vs

-- the fields of a record, in the sequence of the file
unfoldable pub used_tries : Recording → List Tried
used_tries r =
    header_tries r
    ++ (many_tries (event_tries r.stations) event_fields (span (header_fields r)) (used_events r)
    ++ lineups_tries (span (header_fields r) + span (flat_map event_fields (used_events r))) (used_lengths r) r.entries)

-- and last the places not in use, told at the bit after the last entry
unfoldable pub record_tries : Recording → List Tried
record_tries r = used_tries r ++ zero_tries (span (record_fields r)) (unused r)

-- ---- the first that is outside its range

-- the number is within its range
abbrev pub InRange : Tried → Type 0
InRange t = (t.bounds.low ≤ t.value) × (t.value ≤ t.bounds.high)

-- the first of these that is outside its range is told as t
pub record FirstOut (ts : List Tried) (t : Told) : Type 0 where
  pub before : List Tried
  pub out : Tried
  pub after : List Tried
  pub sequence : ts ≡ before ++ out ∷ after
  pub inside : All InRange before
  pub outside : InRange out → ⊥
  pub tells : t ≡ told 2 (AtBit out.bit)

-- the record is not within the limits, which shows first at t
pub record Outside (r : Recording) (t : Told) : Type 0 where
  pub first : FirstOut (record_tries r) t
  pub beyond : Limits r → ⊥

-- one after the other, up to the first that is outside
unfoldable pub try_all : List Tried → Result (Unit {0}) Told
try_all [] = Ok tt
try_all (t ∷ ts) = and_then (ranged t.bit t.bounds.low t.bounds.high t.value) (λ _. try_all ts)

-- what a check of these gives: where all are inside, P holds of its result; else it is the fault of the first that is not
abbrev pub Checks : {X : Type 0} → Result X FieldFault → List Tried → (X → Type 0) → Type 0
Checks result ts P = MatchResult result (λ x. (try_all ts ≡ Ok tt) × P x) (λ e. try_all ts ≡ Err (field_told e))
