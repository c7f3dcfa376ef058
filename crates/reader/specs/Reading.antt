-- What the bytes of a file hold, field by field, or the first fault in the file's sequence: a field is first completed
-- (1, at its first bit, where the bytes end before), then its range is tried (2, at its first bit), then the next.
use Rattle.std.specs.Prelude.{◌≡◌, ℕ, zero, suc, ◌+◌, ◌-◌, ◌*◌, ◌≤◌, cond, List, [], ◌∷◌, map, length, Ok, Err, Result, ◌==◌, nat_le, nat_lt}
use Rattle.std.specs.List.{flat_map}
use Rattle.bits.specs.Bits.{bit_at, spelled}
use Rattle.bits.specs.Told.{told}
use Rattle.bits.specs.declared.told.Place.TheVariants.{AtBit}
use Rattle.bits.specs.declared.cursor.BitCursor.{BitCursor}
use Rattle.bits.specs.declared.told.Told.{Told}
use Rattle.reader.specs.Faults.{read_told}
use Rattle.reader.specs.declared.fault.ReadFault.{ReadFault}
use Rattle.reader.specs.declared.Header.{Header}
use Rattle.recording.specs.declared.record.Event.{Event}
use Rattle.recording.specs.declared.record.EventKind.{EventKind}
use Rattle.recording.specs.declared.record.EventKind.TheVariants.{PostCalled, DrawCalled, PostAnswered, DrawAnswered, DrawEmpty}
use Rattle.recording.specs.declared.record.Recording.{Recording}
use Rattle.recording.specs.Layout.{IsFile, gap}
use Rattle.recording.specs.Ranges.{and_then, ranged}
use Rattle.recording.specs.Record.{Limits, all_entries, carries, event, max_call, max_code, max_entries, max_events, max_kind, max_order, max_stations, no_event, padded}

-- what was read and the bit after it, or the fault
abbrev pub Reading : Type 0 → Type 0
Reading A = Result (A × ℕ) Told

-- what a function returned, its value seen by view, is what the reading gives
abbrev pub Gives : {X Y : Type 0} → (X → Y) → Result X ReadFault → Result Y Told → Type 0
Gives view (Ok x) reading = reading ≡ Ok (view x)
Gives view (Err e) reading = reading ≡ Err (read_told e)

-- a cursor stays over its bytes, and moves on by so many bits at the most
pub record Moved (old new : BitCursor) (most : ℕ) : Type 0 where
  pub bytes : new.bytes.now ≡ old.bytes.now
  pub near : new.place ≤ old.place + most

-- the most bits of an event or an entry
abbrev pub item_bits : ℕ
item_bits = 18

-- the most bits of a line-up, where each entry is counted as an item
abbrev pub lineup_bits : ℕ
lineup_bits = 10 + item_bits * max_entries

-- the field of w bits from bit p on, a number from lo to hi
unfoldable pub field_at : List ℕ → ℕ → ℕ → ℕ → ℕ → Reading ℕ
field_at bs p w lo hi =
    cond (nat_le (p + w) (8 * length bs))
    (and_then (ranged p lo hi (spelled bs p w)) (λ v. Ok (v, p + w)))
    (Err (told 1 (AtBit p)))

-- n items from bit p on
unfoldable pub many_at : {A : Type 0} → (ℕ → Reading A) → ℕ → ℕ → Reading (List A)
many_at item zero p = Ok ([], p)
many_at item (suc n) p = and_then (item p) (λ x. and_then (many_at item n x.1) (λ xs. Ok (x.0 ∷ xs.0, xs.1)))

abbrev pub header_of : ℕ → ℕ → ℕ → Header
header_of c s n = record { code = c; stations = s; count = n }

-- edition, code, stations, event count
unfoldable pub header_at : List ℕ → ℕ → Reading Header
header_at bs p =
    and_then (field_at bs p 4 1 1) (λ edition.
    and_then (field_at bs edition.1 4 0 max_code) (λ code.
    and_then (field_at bs code.1 4 1 max_stations) (λ stations.
    and_then (field_at bs stations.1 11 0 max_events) (λ count.
    Ok (header_of code.0 stations.0 count.0, count.1)))))

-- the kind of a number up to 4
unfoldable pub kind_of : ℕ → EventKind
kind_of k = cond (k == 0) PostCalled (cond (k == 1) DrawCalled (cond (k == 2) PostAnswered (cond (k == 3) DrawAnswered DrawEmpty)))

-- kind, station, and the order where the kind carries one
unfoldable pub event_at : List ℕ → ℕ → ℕ → Reading Event
event_at bs stations p =
    and_then (field_at bs p 3 0 max_kind) (λ kind.
    and_then (field_at bs kind.1 3 0 (stations - 1)) (λ station.
    cond (carries (kind_of kind.0))
    (and_then (field_at bs station.1 12 0 max_order) (λ order. Ok (event (kind_of kind.0) station.0 order.0, order.1)))
    (Ok (event (kind_of kind.0) station.0 0, station.1))))

abbrev pub entry_at : List ℕ → ℕ → Reading ℕ
entry_at bs p = field_at bs p 9 0 max_call

-- length, then the entries
unfoldable pub lineup_at : List ℕ → ℕ → Reading (List ℕ)
lineup_at bs p = and_then (field_at bs p 10 0 max_entries) (λ n. many_at (entry_at bs) n.0 n.1)

-- n filling bits from bit p on, each zero, and no byte after them; else fault 3
unfoldable pub filling_at : List ℕ → ℕ → ℕ → Result ℕ Told
filling_at bs p zero = cond (nat_lt p (8 * length bs)) (Err (told 3 (AtBit p))) (Ok p)
filling_at bs p (suc n) = cond (bit_at bs p == 0) (filling_at bs (p + 1) n) (Err (told 3 (AtBit p)))

-- the record of a header, events and line-ups
abbrev pub record_of : Header → List Event → List (List ℕ) → Recording
record_of h es ls = record {
  code = h.code;
  stations = h.stations;
  count = h.count;
  events = padded max_events no_event es;
  lengths = padded max_stations 0 (map (λ l. length l) ls);
  entries = padded all_entries 0 (flat_map (λ l. l) ls);
}

-- the whole file
unfoldable pub decode : List ℕ → Result Recording Told
decode bs =
    and_then (header_at bs 0) (λ h.
    and_then (many_at (event_at bs h.0.stations) h.0.count h.1) (λ es.
    and_then (many_at (lineup_at bs) h.0.stations es.1) (λ ls.
    and_then (filling_at bs ls.1 (gap ls.1)) (λ _.
    Ok (record_of h.0 es.0 ls.0)))))

-- ---- the same in terms of files and recordings

-- the bytes hold the recording r: they are its file, it is within the limits, and no other recording is so
pub record Holds (bs : List ℕ) (r : Recording) : Type 0 where
  pub decoded : decode bs ≡ Ok r
  pub limits : Limits r
  pub file : IsFile bs r
  pub only : (x : Recording) → Limits x → IsFile bs x → x ≡ r

-- the bytes are no file, which shows first at t
pub record Faulty (bs : List ℕ) (t : Told) : Type 0 where
  pub decoded : decode bs ≡ Err t
  pub none : (x : Recording) → Limits x → IsFile bs x → ⊥
