-- Line-ups and the flat list of their entries; the places in use of a record within the limits.
use Rattle.std.proofs.Common.{◌≡◌, ℕ, ◌+◌, ◌*◌, ◌≤◌, List, [], ◌∷◌, ◌++◌, map, length, take, drop, refl, ap, ◌∙◌, append_assoc, arith, length-append, length-drop, length-take, drop-drop, take-add}
use Rattle.std.specs.List.{AllByRecursion, flat_map}
use Rattle.std.proofs.lemmas.List.{take_at, drop_at, length-map}
use Rattle.std.proofs.lemmas.List.Elements.{recursion_from_All}
use Rattle.recording.specs.declared.record.Recording.{Recording}
use Rattle.recording.specs.Record.{FieldsOk, Limits, all_entries, parts, lineups_of, max_call, max_entries, max_events, max_stations, no_event, total, used_events, used_lengths}
use Rattle.recording.proofs.Padded.{front_full, padded_long}

-- a line-up within the limits
abbrev pub LineupOk : List ℕ → Type 0
LineupOk l = (length l ≤ max_entries) × AllByRecursion (λ c. c ≤ max_call) l

abbrev pub lengths : List (List ℕ) → List ℕ
lengths ls = map (λ l. length l) ls

abbrev pub flat : List (List ℕ) → List ℕ
flat ls = flat_map (λ l. l) ls

pub total_lengths : (ls : List (List ℕ)) → total (lengths ls) ≡ length (flat ls)
unfolding total
total_lengths [] = refl
total_lengths (l ∷ ls) = let e = total_lengths ls in simp length-append (omega arith)

pub parts_flat : (ls : List (List ℕ)) (rest : List ℕ) → parts (lengths ls) (flat ls ++ rest) ≡ ls
unfolding parts
parts_flat [] rest = refl
parts_flat (l ∷ ls) rest =
    let e = append_assoc l (flat ls) rest in
    let t = take_at l (flat ls ++ rest) (length l) refl in
    let d = drop_at l (flat ls ++ rest) (length l) refl in
    rw (e, t, d) (ap (λ (x : List (List ℕ)). l ∷ x) (parts_flat ls rest))

pub lengths_parts : (ns es : List ℕ) → total ns ≤ length es → lengths (parts ns es) ≡ ns
unfolding parts total
lengths_parts [] es h = refl
lengths_parts (n ∷ ns) es h =
    let a : length (take n es) ≡ n = length-take n es ∙ omega arith in
    let b = lengths_parts ns (drop n es) (simp length-drop (omega arith)) in
    rw (a, b)

pub flat_parts : (ns es : List ℕ) → flat (parts ns es) ≡ take (total ns) es
unfolding parts total
flat_parts [] es = refl
flat_parts (n ∷ ns) es = rw (take-add n (total ns) es) (ap (λ (x : List ℕ). take n es ++ x) (flat_parts ns (drop n es)))

pub total_append : (ns ms : List ℕ) → total (ns ++ ms) ≡ total ns + total ms
unfolding total
total_append [] ms = omega arith
total_append (n ∷ ns) ms = let e = total_append ns ms in omega arith

-- one part more, after those that stand
pub parts_push : (ns es : List ℕ) (n : ℕ) → parts (ns ++ n ∷ []) es ≡ parts ns es ++ take n (drop (total ns) es) ∷ []
unfolding parts total
parts_push [] es n = refl
parts_push (m ∷ ns) es n = rw (parts_push ns (drop m es) n, drop-drop (total ns) m es)

pub all_split : {A : Type 0} (P : A → Type 0) (xs ys : List A) → AllByRecursion P (xs ++ ys) → AllByRecursion P xs × AllByRecursion P ys
all_split P [] ys h = (tt, h)
all_split P (x ∷ xs) ys h = let k = all_split P xs ys h.1 in ((h.0, k.0), k.1)

pub all_append : {A : Type 0} (P : A → Type 0) (xs ys : List A) → AllByRecursion P xs → AllByRecursion P ys → AllByRecursion P (xs ++ ys)
all_append P [] ys h k = k
all_append P (x ∷ xs) ys h k = (h.0, all_append P xs ys h.1 k)

pub all_lengths : (ls : List (List ℕ)) → AllByRecursion LineupOk ls → AllByRecursion (λ n. n ≤ max_entries) (lengths ls)
all_lengths [] h = tt
all_lengths (l ∷ ls) h = (h.0.0, all_lengths ls h.1)

pub all_flat : (ls : List (List ℕ)) → AllByRecursion LineupOk ls → AllByRecursion (λ c. c ≤ max_call) (flat ls)
all_flat [] h = tt
all_flat (l ∷ ls) h = all_append (λ c. c ≤ max_call) l (flat ls) h.0.1 (all_flat ls h.1)

pub all_parts : (ns es : List ℕ) → total ns ≤ length es → AllByRecursion (λ n. n ≤ max_entries) ns → AllByRecursion (λ c. c ≤ max_call) (take (total ns) es) → AllByRecursion LineupOk (parts ns es)
unfolding parts total
all_parts [] es l h k = tt
all_parts (n ∷ ns) es l h k =
    let t = take-add n (total ns) es in
    let p = all_split (λ c. c ≤ max_call) (take n es) (take (total ns) (drop n es)) (rw t at k) in
    let a : length (take n es) ≤ max_entries = (let b = length-take n es in let c = h.0 in omega arith) in
    ((a, p.0), all_parts ns (drop n es) (simp length-drop (omega arith)) h.1 p.1)

-- ---- the places in use are there

pub total_most : (ns : List ℕ) → AllByRecursion (λ n. n ≤ max_entries) ns → total ns ≤ max_entries * length ns
unfolding total
total_most [] h = omega arith
total_most (n ∷ ns) h = let a = total_most ns h.1 in let b = h.0 in omega arith

-- all line-ups together have no more entries than there are places
pub most_entries : (r : Recording) → FieldsOk r → total (used_lengths r) ≤ all_entries
most_entries r o =
    let a = total_most (used_lengths r) (recursion_from_All _ _ o.lengths) in
    let b = length-take r.stations r.lengths in
    let c = o.stations in
    omega arith

module _ (r : Recording) (o : Limits r) where
  pub full_events : length (used_events r) ≡ r.count
  full_events = front_full max_events no_event r.events r.count o.fields.count o.rest_events

  pub full_lengths : length (used_lengths r) ≡ r.stations
  full_lengths = front_full max_stations 0 r.lengths r.stations o.fields.stations o.rest_lengths

  pub full_entries : total (used_lengths r) ≤ length r.entries
  full_entries =
      let a = most_entries r o.fields in
      let c = padded_long all_entries 0 r.entries (total (used_lengths r)) o.rest_entries in
      omega arith

  pub full_lineups : length (lineups_of r) ≡ r.stations
  full_lineups =
      let a = length-map (lineups_of r) (λ l. length l) in
      let b = ap (λ (l : List ℕ). length l) (lengths_parts (used_lengths r) r.entries full_entries) in
      let c = full_lengths in
      omega arith
