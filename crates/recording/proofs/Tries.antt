-- Ranges tried one after the other.
use Rattle.std.proofs.Common.{◌≡◌, ℕ, ◌+◌, ◌<◌, ◌≤◌, List, [], ◌∷◌, ◌++◌, length, get_or, take, drop, Ok, Err, Result, sym, refl, ap, ◌∙◌, arith, lit≤, drop_of_length-le, drop-drop, length-drop}
use Rattle.std.specs.List.{AllByRecursion, flat_map}
use Rattle.std.proofs.lemmas.List.{drop_more}
use Rattle.std.proofs.lemmas.List.Elements.{All-cons, All-nil}
use Rattle.bits.specs.declared.told.Told.{Told}
use Rattle.recording.specs.Layout.{Field, lineup_fields, span}
use Rattle.recording.specs.Ranges.{FirstOut, InRange, Tried, and_then, lineup_tries, lineups_tries, many_tries, ranged, try_all}
use Rattle.recording.specs.declared.record.EventKind.{EventKind}
use Rattle.recording.specs.Record.{max_kind, number_of, parts, total}
use Rattle.recording.proofs.Layouts.{kind_most, span_append}
use Rattle.recording.proofs.Ranges.{inside_ranged, not_both, ok_parts, ranged_inside, ranged_told, same_err}

-- ---- what no record can have out of range

pub edition_in : ranged 0 1 1 1 ≡ Ok 1
edition_in = inside_ranged 0 1 1 1 (lit≤ tt) (lit≤ tt)

pub kind_in : (p : ℕ) (k : EventKind) → ranged p 0 max_kind (number_of k) ≡ Ok (number_of k)
kind_in p k = inside_ranged p 0 max_kind (number_of k) (omega arith) (kind_most k)

-- ---- several

then_on : {X Y Z : Type 0} (r : Result X Told) (a : Result Y Told) (b c : Result Z Told) → c ≡ and_then a (λ _. b)
    → and_then r (λ _. c) ≡ and_then (and_then r (λ _. a)) (λ _. b)
then_on (Ok x) a b c h = h
then_on (Err e) a b c h = refl

try_on : (ts us : List Tried) → try_all (ts ++ us) ≡ and_then (try_all ts) (λ _. try_all us)
unfolding try_all
try_on [] us = refl
try_on (t ∷ ts) us = then_on (ranged t.bit t.bounds.low t.bounds.high t.value) (try_all ts) (try_all us) (try_all (ts ++ us)) (try_on ts us)

module _ (ts us : List Tried) where
  pub try_past : try_all ts ≡ Ok tt → try_all (ts ++ us) ≡ try_all us
  try_past h = try_on ts us ∙ rw h

  pub try_stops : (t : Told) → try_all ts ≡ Err t → try_all (ts ++ us) ≡ Err t
  try_stops t h = try_on ts us ∙ rw h

-- ---- items, one after the other

module _ {A : Type 0} (tries : ℕ → A → List Tried) (fields : A → List Field) (xs : List A) (p0 p i : ℕ) (d : A)
    (inv : try_all (many_tries tries fields p0 xs) ≡ try_all (many_tries tries fields p (drop i xs))) where
  pub items_more : i < length xs → try_all (tries p (get_or xs i d)) ≡ Ok tt
      → try_all (many_tries tries fields p0 xs) ≡ try_all (many_tries tries fields (p + span (fields (get_or xs i d))) (drop (i + 1) xs))
  unfolding many_tries
  items_more h k = inv ∙ rw (drop_more xs i d h) (try_past (tries p (get_or xs i d)) _ k)

  pub items_stop : (t : Told) → i < length xs → try_all (tries p (get_or xs i d)) ≡ Err t → try_all (many_tries tries fields p0 xs) ≡ Err t
  unfolding many_tries
  items_stop t h k = inv ∙ rw (drop_more xs i d h) (try_stops (tries p (get_or xs i d)) _ t k)

pub items_done : {A : Type 0} (tries : ℕ → A → List Tried) (fields : A → List Field) (xs : List A) (p0 p i : ℕ)
    → try_all (many_tries tries fields p0 xs) ≡ try_all (many_tries tries fields p (drop i xs)) → length xs ≤ i → try_all (many_tries tries fields p0 xs) ≡ Ok tt
unfolding many_tries try_all
items_done tries fields xs p0 p i inv h = inv ∙ rw (drop_of_length-le xs h)

-- the bits of the items to come
module _ {A : Type 0} (fields : A → List Field) (xs : List A) (i : ℕ) where
  pub span_more : (d : A) → i < length xs → span (flat_map fields (drop i xs)) ≡ span (fields (get_or xs i d)) + span (flat_map fields (drop (i + 1) xs))
  span_more d h = rw (drop_more xs i d h) (span_append (fields (get_or xs i d)) (flat_map fields (drop (i + 1) xs)))

  pub span_done : length xs ≤ i → span (flat_map fields (drop i xs)) ≡ 0
  unfolding span
  span_done h = rw (drop_of_length-le xs h)

-- ---- line-ups, one after the other

module _ (ns es rest : List ℕ) (p0 p i : ℕ) (inv : try_all (lineups_tries p0 ns es) ≡ try_all (lineups_tries p (drop i ns) rest)) where
  pub lineups_more : i < length ns → try_all (lineup_tries p (get_or ns i 0) rest) ≡ Ok tt
      → try_all (lineups_tries p0 ns es) ≡ try_all (lineups_tries (p + span (lineup_fields (take (get_or ns i 0) rest))) (drop (i + 1) ns) (drop (get_or ns i 0) rest))
  unfolding lineups_tries
  lineups_more h k = inv ∙ rw (drop_more ns i 0 h) (try_past (lineup_tries p (get_or ns i 0) rest) _ k)

  pub lineups_stop : (t : Told) → i < length ns → try_all (lineup_tries p (get_or ns i 0) rest) ≡ Err t → try_all (lineups_tries p0 ns es) ≡ Err t
  unfolding lineups_tries
  lineups_stop t h k = inv ∙ rw (drop_more ns i 0 h) (try_stops (lineup_tries p (get_or ns i 0) rest) _ t k)

  pub lineups_done : length ns ≤ i → try_all (lineups_tries p0 ns es) ≡ Ok tt
  unfolding lineups_tries try_all
  lineups_done h = inv ∙ rw (drop_of_length-le ns h)

-- the bits and the entries of the line-ups to come
module _ (ns rest : List ℕ) (i : ℕ) where
  pub parts_more : i < length ns
      → span (flat_map lineup_fields (parts (drop i ns) rest))
      ≡ span (lineup_fields (take (get_or ns i 0) rest)) + span (flat_map lineup_fields (parts (drop (i + 1) ns) (drop (get_or ns i 0) rest)))
  unfolding parts
  parts_more h = rw (drop_more ns i 0 h) (span_append (lineup_fields (take (get_or ns i 0) rest)) _)

  pub parts_done : length ns ≤ i → span (flat_map lineup_fields (parts (drop i ns) rest)) ≡ 0
  unfolding parts span
  parts_done h = rw (drop_of_length-le ns h)

  pub rest_more : i < length ns → drop (total (drop i ns)) rest ≡ drop (total (drop (i + 1) ns)) (drop (get_or ns i 0) rest)
  unfolding total
  rest_more h = rw (drop_more ns i 0 h, drop-drop)

  pub rest_done : length ns ≤ i → drop (total (drop i ns)) rest ≡ rest
  unfolding total
  rest_done h = rw (drop_of_length-le ns h)

-- what the loops use
pub ruleset item_steps = (items_more, items_stop, items_done, span_more, span_done)

pub ruleset lineup_steps = (lineups_more, lineups_stop, lineups_done, parts_more, parts_done, rest_more, rest_done, length-drop)

-- ---- what it says

pub all_inside : (ts : List Tried) → try_all ts ≡ Ok tt → AllByRecursion InRange ts
unfolding try_all
all_inside [] h = tt
all_inside (t ∷ ts) h =
    let k = ok_parts (ranged t.bit t.bounds.low t.bounds.high t.value) (λ _. try_all ts) tt h in
    (ranged_inside _ _ _ _ _ k.1, all_inside ts k.2)

pub inside_all : (ts : List Tried) → AllByRecursion InRange ts → try_all ts ≡ Ok tt
unfolding try_all
inside_all [] h = refl
inside_all (t ∷ ts) h = rw (inside_ranged t.bit _ _ _ h.0.0 h.0.1) (inside_all ts h.1)

first_by : (x : Tried) (ts : List Tried) (t : Told) (r : Result ℕ Told) → ranged x.bit x.bounds.low x.bounds.high x.value ≡ r
    → and_then r (λ _. try_all ts) ≡ Err t → (try_all ts ≡ Err t → FirstOut ts t) → FirstOut (x ∷ ts) t
first_by x ts t (Ok v) e k on =
    let f = on k in
    record {
      before = x ∷ f.before;
      out = f.out;
      after = f.after;
      sequence = ap (λ (l : List Tried). x ∷ l) f.sequence;
      inside = All-cons InRange x f.before (ranged_inside _ _ _ _ _ e) f.inside;
      outside = f.outside;
      tells = f.tells;
    }
first_by x ts t (Err u) e k on =
    record {
      before = [];
      out = x;
      after = ts;
      sequence = refl;
      inside = All-nil InRange;
      outside = λ a. not_both x.value u (sym (inside_ranged x.bit _ _ _ a.0 a.1) ∙ e);
      tells = ranged_told _ _ _ _ t (e ∙ same_err _ _ k);
    }

pub first_out : (ts : List Tried) (t : Told) → try_all ts ≡ Err t → FirstOut ts t
unfolding try_all
first_out [] t h = absurd (not_both tt t h)
first_out (x ∷ ts) t h = first_by x ts t (ranged x.bit x.bounds.low x.bounds.high x.value) refl h (first_out ts t)

-- ---- steps that no proof here takes any more; docs/PORT.md names them

-- the entries of the line-ups to come
module _ (ns : List ℕ) (i : ℕ) where
  pub total_more : i < length ns → total (drop i ns) ≡ get_or ns i 0 + total (drop (i + 1) ns)
  unfolding total
  total_more h = rw (drop_more ns i 0 h)

  pub total_done : length ns ≤ i → total (drop i ns) ≡ 0
  unfolding total
  total_done h = rw (drop_of_length-le ns h)
