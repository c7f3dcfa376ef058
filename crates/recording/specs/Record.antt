-- What a record holds, which of its places are in use, and when it is within the limits.
use Rattle.std.specs.Prelude.{◌≡◌, ℕ, ◌+◌, ◌-◌, ◌<◌, ◌≤◌, Bool, true, false, List, [], ◌∷◌, ◌++◌, length, take, drop, replicate, All}
use Rattle.recording.specs.declared.record.EventKind.{EventKind}
use Rattle.recording.specs.declared.record.EventKind.TheVariants.{PostCalled, DrawCalled, PostAnswered, DrawAnswered, DrawEmpty}
use Rattle.recording.specs.declared.record.Event.{Event}
use Rattle.recording.specs.declared.record.Recording.{Recording}

-- the highest code of a kind of lane
abbrev pub max_code : ℕ
max_code = 3

-- the highest number of a kind of event
abbrev pub max_kind : ℕ
max_kind = 4

-- the most stations
abbrev pub max_stations : ℕ
max_stations = 8

-- the most events
abbrev pub max_events : ℕ
max_events = 1024

-- the most entries of one line-up
abbrev pub max_entries : ℕ
max_entries = 512

-- the most entries of all line-ups together
abbrev pub all_entries : ℕ
all_entries = 4096

-- the highest order
abbrev pub max_order : ℕ
max_order = 4095

-- the highest call number
abbrev pub max_call : ℕ
max_call = 511

-- the number of a kind
abbrev pub number_of : EventKind → ℕ
number_of PostCalled = 0
number_of DrawCalled = 1
number_of PostAnswered = 2
number_of DrawAnswered = 3
number_of DrawEmpty = 4

-- the kinds that carry an order
abbrev pub carries : EventKind → Bool
carries PostCalled = true
carries DrawCalled = false
carries PostAnswered = false
carries DrawAnswered = true
carries DrawEmpty = false

abbrev pub event : EventKind → ℕ → ℕ → Event
event k s o = record { kind = k; station = s; order = o }

-- the event that is zero throughout
abbrev pub no_event : Event
no_event = event PostCalled 0 0

-- the record that is zero throughout
abbrev pub all_zero : Recording
all_zero = record {
  code = 0;
  stations = 0;
  count = 0;
  events = replicate max_events no_event;
  lengths = replicate max_stations 0;
  entries = replicate all_entries 0;
}

-- ---- the places in use

-- the events
abbrev pub used_events : Recording → List Event
used_events r = take r.count r.events

-- the line-ups' lengths
abbrev pub used_lengths : Recording → List ℕ
used_lengths r = take r.stations r.lengths

unfoldable pub total : List ℕ → ℕ
total [] = 0
total (n ∷ ns) = n + total ns

-- the entries of all line-ups
abbrev pub used_entries : Recording → List ℕ
used_entries r = take (total (used_lengths r)) r.entries

-- a list of entries as parts of these lengths, one after the other
unfoldable pub parts : List ℕ → List ℕ → List (List ℕ)
parts [] es = []
parts (n ∷ ns) es = take n es ∷ parts ns (drop n es)

-- the line-ups, station by station
abbrev pub lineups_of : Recording → List (List ℕ)
lineups_of r = parts (used_lengths r) r.entries

-- a list at the front of so many places, the others holding z
unfoldable pub padded : {A : Type 0} → ℕ → A → List A → List A
padded n z xs = xs ++ replicate (n - length xs) z

-- ---- the limits

-- an event within the limits of a recording with so many stations
pub record EventOk (stations : ℕ) (e : Event) : Type 0 where
  pub station : e.station < stations
  pub order : e.order ≤ max_order
  pub uncarried : carries e.kind ≡ false → e.order ≡ 0

-- each field of a recording is in its range
pub record FieldsOk (r : Recording) : Type 0 where
  pub code : r.code ≤ max_code
  pub some : 1 ≤ r.stations
  pub stations : r.stations ≤ max_stations
  pub count : r.count ≤ max_events
  pub events : All (EventOk r.stations) (used_events r)
  pub lengths : All (λ n. n ≤ max_entries) (used_lengths r)
  pub entries : All (λ c. c ≤ max_call) (used_entries r)

-- a recording within the limits: each field in its range, each unused place zero
pub record Limits (r : Recording) : Type 0 where
  pub fields : FieldsOk r
  pub rest_events : r.events ≡ padded max_events no_event (used_events r)
  pub rest_lengths : r.lengths ≡ padded max_stations 0 (used_lengths r)
  pub rest_entries : r.entries ≡ padded all_entries 0 (used_entries r)
