-- The two ends of a list of held orders.
use Rattle.std.proofs.Common.{◌≡◌, ℕ, zero, suc, ◌-◌, ◌<◌, ◌≤◌, true, List, [], ◌∷◌, length, get_or, slice_get, Some, None, Option, sym, refl, ap, ◌∙◌, sub-one, arith, Bor, MatchOption}
use Rattle.std.specs.Option.{option_map}
use Rattle.std.specs.List.{HoldsAt}
use Rattle.std.proofs.lemmas.Option.{slice_get-get_or}
use Rattle.bank.specs.Orders.{holds}
use Rattle.bank.specs.Rules.{is_that, newest_of, oldest_of, only_newest, only_oldest}
use Rattle.kinds.specs.Picks.{Picks}

newest_at : (x : ℕ) (xs : List ℕ) → slice_get (x ∷ xs) (length xs) ≡ newest_of (x ∷ xs)
newest_at x [] = refl
newest_at x (y ∷ ys) = newest_at y ys

pub newest_get : (xs : List ℕ) → slice_get xs (length xs - 1) ≡ newest_of xs
newest_get [] = refl
newest_get (x ∷ xs) = ap (slice_get (x ∷ xs)) (sub-one (suc (length xs))) ∙ newest_at x xs

-- what stands at an end is held
abbrev Held : List ℕ → Option ℕ → Type 0
Held xs o = MatchOption o (xs ≡ []) (λ x. holds xs x ≡ true)

-- where only one may leave, it is picked
picks_that : (xs : List ℕ) (o : Option ℕ) → Held xs o → Picks (λ _. is_that o) xs o
picks_that xs None h = h
picks_that xs (Some x) h = grind arith

pub picks_oldest : (xs : List ℕ) → Picks only_oldest xs (oldest_of xs)
picks_oldest [] = refl
picks_oldest (x ∷ xs) = grind arith

newest_held : (x : ℕ) (xs : List ℕ) → (y : ℕ) × (newest_of (x ∷ xs) ≡ Some y) × (holds (x ∷ xs) y ≡ true)
newest_held x [] = (x, refl, grind arith)
newest_held x (y ∷ ys) = let r = newest_held y ys in (r.0, r.1, grind (arith, r.2))

pub picks_newest : (xs : List ℕ) → Picks only_newest xs (newest_of xs)
picks_newest [] = refl
picks_newest (x ∷ xs) = let r = newest_held x xs in rw r.1 (picks_that (x ∷ xs) (Some r.0) r.2)

-- ---- steps that no proof here takes any more; docs/PORT.md names them

-- what a read at place i of a list gives, where it has any
abbrev Read : List ℕ → ℕ → Option (Bor ℕ) → Type 0
Read xs i o = MatchOption o (length xs ≤ 0) (λ x. (0 < length xs) × HoldsAt (λ y. x.now ≡ y) xs i)

pub oldest_read : (xs : List ℕ) (o : Option (Bor ℕ)) → Read xs 0 o → option_map (λ x. x.now) o ≡ oldest_of xs
oldest_read [] None h = refl
oldest_read [] (Some x) h = absurd (omega (arith, h.0))
oldest_read (y ∷ ys) None h = absurd (omega (arith, h))
oldest_read (y ∷ ys) (Some x) h = ap Some (h.1 0)

pub newest_read : (xs : List ℕ) (o : Option (Bor ℕ)) → Read xs (length xs - 1) o → option_map (λ x. x.now) o ≡ newest_of xs
newest_read [] None h = refl
newest_read [] (Some x) h = absurd (omega (arith, h.0))
newest_read (y ∷ ys) None h = absurd (omega (arith, h))
newest_read (y ∷ ys) (Some x) h = ap Some (h.1 0) ∙ sym (slice_get-get_or (y ∷ ys) (length (y ∷ ys) - 1) 0 (omega arith)) ∙ newest_get (y ∷ ys)

held_at : (xs : List ℕ) (i : ℕ) → i < length xs → holds xs (get_or xs i 0) ≡ true
held_at [] i h = absurd (omega arith)
held_at (x ∷ xs) zero h = grind arith
held_at (x ∷ xs) (suc i) h = grind (arith, held_at xs i (omega arith))
