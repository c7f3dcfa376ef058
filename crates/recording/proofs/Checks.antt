-- A record passes its ranges exactly when it is within the limits.
use Rattle.std.proofs.Common.{◌≡◌, ℕ, zero, suc, ◌+◌, ◌-◌, ◌≤◌, Bool, true, false, ◌&&◌, ◌==◌, List, [], ◌∷◌, ◌++◌, length, take, drop, replicate, Ok, Err, IsTrue, sym, refl, ap, ◌∙◌, inr, arith, take-add, length-take}
use Rattle.std.specs.List.{All, AllByRecursion, flat_map}
use Rattle.std.proofs.lemmas.List.Elements.{All-from_recursion, recursion_from_All}
use Rattle.std.proofs.lemmas.Bool.{and_parts, both_ways, eqb-true}
use Rattle.bits.specs.declared.told.Told.{Told}
use Rattle.bits.specs.declared.told.Place.TheVariants.{AtBit}
use Rattle.bits.specs.Told.{told}
use denote.Enum.Bare.{sameb}
use Rattle.recording.specs.contracts.record.EventKind.{the_type}
use Rattle.recording.specs.declared.record.Event.{Event}
use Rattle.recording.specs.declared.record.EventKind.{EventKind}
use Rattle.recording.specs.declared.record.EventKind.TheVariants.{PostCalled, DrawCalled, PostAnswered, DrawAnswered, DrawEmpty}
use Rattle.recording.specs.declared.record.Recording.{Recording}
use Rattle.recording.specs.Layout.{entry_fields, event_fields, header_fields, lineup_fields, record_fields, span}
use Rattle.recording.specs.Ranges.{InRange, Outside, Tried, entry_tries, event_numbers, event_tries, header_tries, lineup_tries, lineups_tries, many_tries, record_tries, try_all, unused, used_tries, zero_tries}
use Rattle.recording.specs.Record.{EventOk, FieldsOk, Limits, all_entries, carries, lineups_of, max_call, max_entries, max_events, max_stations, no_event, number_of, total, used_events, used_lengths}
use Rattle.recording.proofs.Layouts.{kind_most, span_append}
use Rattle.recording.proofs.Lineups.{all_append, all_split, most_entries}
use Rattle.recording.proofs.Padded.{padded_back, padded_rest}
use Rattle.recording.proofs.Ranges.{inside_ranged, not_both, ranged_out}
use Rattle.recording.proofs.Tries.{all_inside, first_out, inside_all, try_past, try_stops}

-- ---- events

event_by : (st p : ℕ) (e : Event) (b : Bool) → carries e.kind ≡ b → 1 ≤ st → AllByRecursion InRange (event_tries st p e) → EventOk st e
unfolding event_tries event_fields
event_by st p e true y some h =
    let k = rw y at h in
    let s = k.1.0.1 in
    record { station = omega arith; order = k.1.1.0.1; uncarried = λ f. absurd (both_ways (carries e.kind) f y) }
event_by st p e false y some h =
    let k = rw y at h in
    let s = k.1.0.1 in
    let o = k.1.1.0.1 in
    record { station = omega arith; order = omega arith; uncarried = λ f. omega arith }

event_inside : (st p : ℕ) (e : Event) → 1 ≤ st → AllByRecursion InRange (event_tries st p e) → EventOk st e
event_inside st p e some h = event_by st p e (carries e.kind) refl some h

tried_by : (st p : ℕ) (e : Event) (b : Bool) → carries e.kind ≡ b → EventOk st e → AllByRecursion InRange (event_tries st p e)
unfolding event_tries event_fields
tried_by st p e true y o =
    let k = kind_most e.kind in
    let s = o.station in
    rw y ((omega arith, omega arith), ((omega arith, omega arith), ((omega arith, o.order), tt)))
tried_by st p e false y o =
    let k = kind_most e.kind in
    let s = o.station in
    let z = o.uncarried y in
    rw y ((omega arith, omega arith), ((omega arith, omega arith), ((omega arith, omega arith), tt)))

inside_event : (st p : ℕ) (e : Event) → EventOk st e → AllByRecursion InRange (event_tries st p e)
inside_event st p e o = tried_by st p e (carries e.kind) refl o

events_inside : (st p : ℕ) (es : List Event) → 1 ≤ st → AllByRecursion InRange (many_tries (event_tries st) event_fields p es) → AllByRecursion (EventOk st) es
unfolding many_tries
events_inside st p [] some h = tt
events_inside st p (e ∷ es) some h =
    let k = all_split InRange (event_tries st p e) _ h in
    (event_inside st p e some k.0, events_inside st (p + span (event_fields e)) es some k.1)

inside_events : (st p : ℕ) (es : List Event) → AllByRecursion (EventOk st) es → AllByRecursion InRange (many_tries (event_tries st) event_fields p es)
unfolding many_tries
inside_events st p [] h = tt
inside_events st p (e ∷ es) h = all_append InRange (event_tries st p e) _ (inside_event st p e h.0) (inside_events st (p + span (event_fields e)) es h.1)

-- ---- line-ups

entries_inside : (p : ℕ) (es : List ℕ) → AllByRecursion InRange (many_tries entry_tries entry_fields p es) → AllByRecursion (λ c. c ≤ max_call) es
unfolding many_tries
entries_inside p [] h = tt
entries_inside p (e ∷ es) h = (h.0.1, entries_inside (p + span (entry_fields e)) es h.1)

inside_entries : (p : ℕ) (es : List ℕ) → AllByRecursion (λ c. c ≤ max_call) es → AllByRecursion InRange (many_tries entry_tries entry_fields p es)
unfolding many_tries
inside_entries p [] h = tt
inside_entries p (e ∷ es) h = ((omega arith, h.0), inside_entries (p + span (entry_fields e)) es h.1)

lineups_inside : (p : ℕ) (ns es : List ℕ) → AllByRecursion InRange (lineups_tries p ns es) → AllByRecursion (λ n. n ≤ max_entries) ns × AllByRecursion (λ c. c ≤ max_call) (take (total ns) es)
unfolding lineups_tries lineup_tries total
lineups_inside p [] es h = (tt, tt)
lineups_inside p (n ∷ ns) es h =
    let k = all_split InRange (lineup_tries p n es) _ h in
    let m = lineups_inside (p + span (lineup_fields (take n es))) ns (drop n es) k.1 in
    ((k.0.0.1, m.0), rw (take-add n (total ns) es) (all_append (λ c. c ≤ max_call) (take n es) _ (entries_inside _ _ k.0.1) m.1))

inside_lineups : (p : ℕ) (ns es : List ℕ) → AllByRecursion (λ n. n ≤ max_entries) ns → AllByRecursion (λ c. c ≤ max_call) (take (total ns) es) → AllByRecursion InRange (lineups_tries p ns es)
unfolding lineups_tries lineup_tries total
inside_lineups p [] es h k = tt
inside_lineups p (n ∷ ns) es h k =
    let m = all_split (λ c. c ≤ max_call) (take n es) _ (rw (take-add n (total ns) es) at k) in
    all_append InRange (lineup_tries p n es) _ ((omega arith, h.0), inside_entries _ _ m.0) (inside_lineups (p + span (lineup_fields (take n es))) ns (drop n es) h.1 m.1)

-- ---- places that are not in use

zeros_inside : (p : ℕ) (vs : List ℕ) → AllByRecursion InRange (zero_tries p vs) → AllByRecursion (λ v. v ≡ 0) vs
zeros_inside p [] h = tt
zeros_inside p (v ∷ vs) h = (omega (arith, h.0.1), zeros_inside p vs h.1)

inside_zeros : (p : ℕ) (vs : List ℕ) → AllByRecursion (λ v. v ≡ 0) vs → AllByRecursion InRange (zero_tries p vs)
inside_zeros p [] h = tt
inside_zeros p (v ∷ vs) h = ((omega arith, omega (arith, h.0)), inside_zeros p vs h.1)

same_zeros : (vs : List ℕ) → AllByRecursion (λ v. v ≡ 0) vs → vs ≡ replicate (length vs) 0
same_zeros [] h = refl
same_zeros (v ∷ vs) h = rw h.0 (ap (λ (l : List ℕ). 0 ∷ l) (same_zeros vs h.1))

zeros_all : (n : ℕ) → AllByRecursion {X = ℕ} (λ v. v ≡ 0) (replicate n 0)
zeros_all zero = tt
zeros_all (suc n) = (refl, zeros_all n)

first_kind : (k : EventKind) → number_of k ≡ 0 → k ≡ PostCalled
first_kind PostCalled h = refl
first_kind DrawCalled h = absurd (let z : ⊥ = omega arith in z)
first_kind PostAnswered h = absurd (let z : ⊥ = omega arith in z)
first_kind DrawAnswered h = absurd (let z : ⊥ = omega arith in z)
first_kind DrawEmpty h = absurd (let z : ⊥ = omega arith in z)

same_events : (es : List Event) → AllByRecursion (λ v. v ≡ 0) (flat_map event_numbers es) → es ≡ replicate (length es) no_event
same_events [] h = refl
same_events (e ∷ es) h =
    let n : e ≡ no_event = rw (first_kind e.kind h.0, h.1.0, h.1.1.0) in
    ap (λ (x : Event). x ∷ es) n ∙ ap (λ (l : List Event). no_event ∷ l) (same_events es h.1.1.1)

events_all : (n : ℕ) → AllByRecursion (λ v. v ≡ 0) (flat_map event_numbers (replicate n no_event))
events_all zero = tt
events_all (suc n) = (refl, (refl, (refl, events_all n)))

-- numbers of which one is not zero
zeros_fail : (p : ℕ) (vs : List ℕ) → (AllByRecursion (λ v. v ≡ 0) vs → ⊥) → try_all (zero_tries p vs) ≡ Err (told 2 (AtBit p))
unfolding try_all
zeros_fail p [] h = absurd (h tt)
zeros_fail p (zero ∷ vs) h = rw (inside_ranged p 0 0 0 (omega arith) (omega arith)) (zeros_fail p vs (λ k. h (refl, k)))
zeros_fail p (suc v ∷ vs) h = rw (ranged_out p 0 0 (suc v) (told 2 (AtBit p)) (refl, inr (omega arith)))

-- items that are all the same as z, by a fact that tells z from the others
module _ {A : Type 0} (P : A → Type 0) (z : A) where
  same_by : ((x : A) → P x → x ≡ z) → (xs : List A) → AllByRecursion P xs → xs ≡ replicate (length xs) z
  same_by f [] h = refl
  same_by f (x ∷ xs) h = rw (f x h.0) (ap (λ (l : List A). z ∷ l) (same_by f xs h.1))

  by_same : P z → (n : ℕ) → AllByRecursion P (replicate n z)
  by_same k zero = tt
  by_same k (suc n) = (k, by_same k n)

  pub all_same : ((x : A) → P x → x ≡ z) → (xs : List A) → All P xs → xs ≡ replicate (length xs) z
  all_same f xs h = same_by f xs (recursion_from_All _ xs h)

  pub not_same : P z → (xs : List A) (b : Bool) → (All P xs → IsTrue b) → b ≡ false → xs ≡ replicate (length xs) z → ⊥
  not_same k xs b tells f e = both_ways b f (tells (rw e (All-from_recursion _ _ (by_same k (length xs)))))

-- the tests of an event and of a number, as their derived and their own equality are
abbrev pub is_no_event : Event → Bool
is_no_event e = sameb the_type e.kind PostCalled && (e.station == 0 && e.order == 0)

abbrev pub IsZero : ℕ → Type 0
IsZero n = (n == 0) ≡ true

abbrev pub IsNoEvent : Event → Type 0
IsNoEvent e = e ≡ no_event

first_only : (k : EventKind) → sameb the_type k PostCalled ≡ true → k ≡ PostCalled
first_only PostCalled h = refl
first_only DrawCalled h = absurd (both_ways false refl h)
first_only PostAnswered h = absurd (both_ways false refl h)
first_only DrawAnswered h = absurd (both_ways false refl h)
first_only DrawEmpty h = absurd (both_ways false refl h)

pub no_event_only : (e : Event) → is_no_event e ≡ true → e ≡ no_event
no_event_only e h =
    let k = and_parts _ _ h in
    let n = and_parts _ _ k.1 in
    rw (first_only e.kind k.0, eqb-true e.station 0 n.0, eqb-true e.order 0 n.1)

-- the places that are not in use are zero throughout
pub record Idle (r : Recording) : Type 0 where
  pub events : drop r.count r.events ≡ replicate (length (drop r.count r.events)) no_event
  pub lengths : drop r.stations r.lengths ≡ replicate (length (drop r.stations r.lengths)) 0
  pub entries : drop (total (used_lengths r)) r.entries ≡ replicate (length (drop (total (used_lengths r)) r.entries)) 0

-- ---- the record

module _ (r : Recording) where
  pub used_inside : try_all (used_tries r) ≡ Ok tt → FieldsOk r
  unfolding used_tries
  used_inside h =
      let k = all_split InRange (header_tries r) _ (all_inside _ h) in
      let m = all_split InRange (many_tries (event_tries r.stations) event_fields (span (header_fields r)) (used_events r)) _ k.1 in
      let l = lineups_inside _ (used_lengths r) r.entries m.1 in
      record {
        code = k.0.1.0.1;
        some = k.0.1.1.0.0;
        stations = k.0.1.1.0.1;
        count = k.0.1.1.1.0.1;
        events = All-from_recursion _ _ (events_inside r.stations (span (header_fields r)) (used_events r) k.0.1.1.0.0 m.0);
        lengths = All-from_recursion _ _ l.0;
        entries = All-from_recursion _ _ l.1;
      }

  pub idle_limits : length r.events ≡ max_events → length r.lengths ≡ max_stations → length r.entries ≡ all_entries
      → FieldsOk r → Idle r → Limits r
  idle_limits le ln lc u z =
      record {
        fields = u;
        rest_events = padded_back max_events no_event r.events r.count u.count le z.events;
        rest_lengths = padded_back max_stations 0 r.lengths r.stations u.stations ln z.lengths;
        rest_entries = padded_back all_entries 0 r.entries (total (used_lengths r)) (most_entries r u) lc z.entries;
      }

  -- what passes its ranges is within the limits
  pub used_limits : length r.events ≡ max_events → length r.lengths ≡ max_stations → length r.entries ≡ all_entries
      → FieldsOk r → try_all (record_tries r) ≡ Ok tt → Limits r
  unfolding record_tries
  used_limits le ln lc u h =
      let k = all_split InRange (used_tries r) _ (all_inside _ h) in
      let z = zeros_inside (span (record_fields r)) (unused r) k.1 in
      let m = all_split (λ v. v ≡ 0) (flat_map event_numbers (drop r.count r.events)) _ z in
      let n = all_split (λ v. v ≡ 0) (drop r.stations r.lengths) _ m.1 in
      idle_limits le ln lc u (record { events = same_events _ m.0; lengths = same_zeros _ n.0; entries = same_zeros _ n.1 })

  -- where not all places not in use are zero, their numbers are not
  not_idle : (Idle r → ⊥) → AllByRecursion (λ v. v ≡ 0) (unused r) → ⊥
  not_idle h z =
      let m = all_split (λ v. v ≡ 0) (flat_map event_numbers (drop r.count r.events)) _ z in
      let n = all_split (λ v. v ≡ 0) (drop r.stations r.lengths) _ m.1 in
      h (record { events = same_events _ m.0; lengths = same_zeros _ n.0; entries = same_zeros _ n.1 })

  limits_inside : Limits r → AllByRecursion InRange (record_tries r)
  unfolding record_tries used_tries
  limits_inside o =
      let u = o.fields in
      let t = most_entries r u in
      let de = padded_rest max_events no_event r.events r.count u.count o.rest_events in
      let dn = padded_rest max_stations 0 r.lengths r.stations u.stations o.rest_lengths in
      let dc = padded_rest all_entries 0 r.entries (total (used_lengths r)) t o.rest_entries in
      let ze : AllByRecursion (λ v. v ≡ 0) (flat_map event_numbers (drop r.count r.events)) = rw de (events_all (max_events - r.count)) in
      let zn : AllByRecursion (λ v. v ≡ 0) (drop r.stations r.lengths) = rw dn (zeros_all (max_stations - r.stations)) in
      let zc : AllByRecursion (λ v. v ≡ 0) (drop (total (used_lengths r)) r.entries) = rw dc (zeros_all (all_entries - total (used_lengths r))) in
      let header : AllByRecursion InRange (header_tries r) = ((omega arith, omega arith), ((omega arith, u.code), ((u.some, u.stations), ((omega arith, u.count), tt)))) in
      all_append InRange (used_tries r) _
      (all_append InRange (header_tries r) _ header
      (all_append InRange (many_tries (event_tries r.stations) event_fields (span (header_fields r)) (used_events r)) _
      (inside_events r.stations (span (header_fields r)) (used_events r) (recursion_from_All _ _ u.events))
      (inside_lineups _ (used_lengths r) r.entries (recursion_from_All _ _ u.lengths) (recursion_from_All _ _ u.entries))))
      (inside_zeros (span (record_fields r)) (unused r)
      (all_append (λ v. v ≡ 0) (flat_map event_numbers (drop r.count r.events)) _ ze
      (all_append (λ v. v ≡ 0) (drop r.stations r.lengths) _ zn zc)))

  pub outside : (t : Told) → try_all (record_tries r) ≡ Err t → Outside r t
  outside t h = record { first = first_out (record_tries r) t h; beyond = λ o. not_both tt t (sym (inside_all (record_tries r) (limits_inside o)) ∙ h) }

  used_outside : (t : Told) → try_all (used_tries r) ≡ Err t → Outside r t
  unfolding record_tries
  used_outside t h = outside t (try_stops (used_tries r) _ t h)

  -- ---- its parts, in their sequence

  abbrev used_event_tries : List Tried
  used_event_tries = many_tries (event_tries r.stations) event_fields (span (header_fields r)) (used_events r)

  abbrev used_lineup_tries : ℕ → List Tried
  used_lineup_tries p = lineups_tries p (used_lengths r) r.entries

  pub header_outside : (t : Told) → try_all (header_tries r) ≡ Err t → Outside r t
  unfolding used_tries
  header_outside t h = used_outside t (try_stops (header_tries r) _ t h)

  module _ (a : try_all (header_tries r) ≡ Ok tt) where
    pub events_outside : (t : Told) → try_all used_event_tries ≡ Err t → Outside r t
    unfolding used_tries
    events_outside t h = used_outside t (try_past (header_tries r) _ a ∙ try_stops used_event_tries _ t h)

    module _ (b : try_all used_event_tries ≡ Ok tt) (p : ℕ) (e : p ≡ span (header_fields r) + span (flat_map event_fields (used_events r))) where
      pub lineups_outside : (t : Told) → try_all (used_lineup_tries p) ≡ Err t → Outside r t
      unfolding used_tries
      lineups_outside t h = used_outside t (try_past (header_tries r) _ a ∙ try_past used_event_tries _ b ∙ rw e at h)

      pub all_used : try_all (used_lineup_tries p) ≡ Ok tt → try_all (used_tries r) ≡ Ok tt
      unfolding used_tries
      all_used h = try_past (header_tries r) _ a ∙ try_past used_event_tries _ b ∙ rw e at h

      pub bits_used : span (record_fields r) ≡ p + span (flat_map lineup_fields (lineups_of r))
      unfolding record_fields span
      bits_used =
          let s = span_append (header_fields r) (flat_map event_fields (used_events r) ++ flat_map lineup_fields (lineups_of r)) in
          let u = span_append (flat_map event_fields (used_events r)) (flat_map lineup_fields (lineups_of r)) in
          omega arith

  module _ (a : try_all (used_tries r) ≡ Ok tt) (p : ℕ) (e : p ≡ span (record_fields r)) where
    pub idle_outside : (Idle r → ⊥) → Outside r (told 2 (AtBit p))
    unfolding record_tries
    idle_outside h = rw e (outside _ (try_past (used_tries r) _ a ∙ zeros_fail _ (unused r) (not_idle h)))

-- what the check of the fields uses
pub ruleset used_steps = (header_outside, events_outside, lineups_outside, all_used, bits_used, length-take)

-- what the check of the places not in use uses
pub ruleset unused_steps = (used_inside, most_entries)

-- what the test of events uses
pub no_event_is : (e : Event) → e ≡ no_event → is_no_event e ≡ true
no_event_is e h = rw h refl

pub ruleset zero_event_steps = (no_event_only, no_event_is)
