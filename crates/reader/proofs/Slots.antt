-- The slots of a record that is zero throughout, with events and line-ups at their front.
use Rattle.std.proofs.Common.{◌≡◌, ℕ, ◌≤◌, List, ◌++◌, length, take, drop, replicate, ap, ◌∙◌, arith, length-take}
use lib.ListN.{length-replicate}
pub use Rattle.std.proofs.lemmas.List.{length-take-le, take-append-drop}
use Rattle.recording.specs.declared.record.Event.{Event}
use Rattle.recording.specs.declared.record.Recording.{Recording}
use Rattle.recording.specs.Record.{all_entries, all_zero, max_events, max_stations, no_event, padded, parts, total}
pub use Rattle.recording.proofs.Lineups.{flat, flat_parts, lengths_parts}
use Rattle.recording.proofs.Padded.{padded_front}

module _ (n : ℕ) (r : Recording) (zero : r ≡ all_zero) where
  events_are : r.events ≡ replicate max_events no_event
  events_are = ap (λ (x : Recording). x.events) zero

  pub front_length : n ≤ max_events → length (take n r.events) ≡ n
  front_length h = length-take n r.events ∙ rw (events_are, length-replicate) (omega arith)

  pub events_padded : (es : List Event) → length es ≡ n → es ++ drop n r.events ≡ padded max_events no_event es
  events_padded es l = rw events_are (padded_front max_events no_event es n l)

  pub lengths_padded : (ns : List ℕ) → length ns ≡ n → ns ++ drop n r.lengths ≡ padded max_stations 0 ns
  lengths_padded ns l = rw (ap (λ (x : Recording). x.lengths) zero) (padded_front max_stations 0 ns n l)

  pub entries_padded : (es : List ℕ) → length es ≡ n → es ++ drop n r.entries ≡ padded all_entries 0 es
  entries_padded es l = rw (ap (λ (x : Recording). x.entries) zero) (padded_front all_entries 0 es n l)

-- the line-ups at the front of the entries, and what stands after them
pub parts_front : (ns es : List ℕ) → (flat (parts ns es) ≡ take (total ns) es) × (take (total ns) es ++ drop (total ns) es ≡ es)
parts_front ns es = (flat_parts ns es, take-append-drop (total ns) es)

-- what the reading of a record uses
pub ruleset slots_steps = (front_length, events_padded, lengths_padded, entries_padded, lengths_parts, parts_front, length-take-le)
