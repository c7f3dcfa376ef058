-- Lists of orders: what is on them once an order is added or taken off.
use Rattle.std.proofs.Common.{◌≡◌, ℕ, ◌+◌, ◌≤◌, Bool, true, false, cond, not, ◌&&◌, ◌||◌, eqb, List, [], ◌∷◌, ◌++◌, length, filter, sym, refl, ap, ◌∙◌, ⊎_elim, arith}
use Rattle.std.specs.List.{list_any}
use Rattle.std.proofs.Math.Bool.{and_comm}
use Rattle.std.proofs.lemmas.List.Filters.{length-filter_both}
use Rattle.std.proofs.lemmas.Map.Views.{any-filter_same}
use Rattle.std.proofs.lemmas.Bool.{eqb-true, false≢true, or_cases}
use Rattle.recording.specs.Record.{max_order}
use Rattle.bank.specs.Orders.{holds, without, proper}

-- what a slice's `contains` answers
pub any_holds : (xs : List ℕ) (x : ℕ) → list_any (λ y. eqb y x) xs ≡ holds xs x
any_holds [] x = refl
any_holds (y ∷ ys) x = ap (λ b. eqb y x || b) (any_holds ys x)

-- ---- an order added

pub holds_append : (xs ys : List ℕ) (x : ℕ) → holds (xs ++ ys) x ≡ (holds xs x || holds ys x)
holds_append [] ys x = refl
holds_append (z ∷ zs) ys x = grind (arith, holds_append zs ys x)

-- an order that was added is held
pub holds_push : (xs : List ℕ) (x : ℕ) → holds (xs ++ x ∷ []) x ≡ true
holds_push xs x = grind (arith, holds_append xs (x ∷ []) x)

pub proper_push : (xs : List ℕ) (x : ℕ) → proper xs ≡ true → holds xs x ≡ false → x ≤ max_order → proper (xs ++ x ∷ []) ≡ true
proper_push [] x p h l = grind arith
proper_push (y ∷ ys) x p h l = grind (arith, holds_append ys (x ∷ []) y, proper_push ys x)

-- ---- an order taken off

-- a filtered list has what the list has and passes
holds_kept : (p : ℕ → Bool) (xs : List ℕ) (y : ℕ) → holds (filter p xs) y ≡ (holds xs y && p y)
holds_kept p xs y =
    sym (any_holds (filter p xs) y)
    ∙ any-filter_same (λ z. eqb z y) p (p y) (λ z e. ap p (eqb-true z y e)) xs
    ∙ and_comm (p y) (list_any (λ z. eqb z y) xs)
    ∙ ap (λ b. b && p y) (any_holds xs y)

-- an order that was taken off is gone, and the others are still there
pub holds_without : (xs : List ℕ) (x y : ℕ) → holds (without xs x) y ≡ (holds xs y && not (eqb y x))
holds_without xs x y = holds_kept (λ z. not (eqb z x)) xs y

pub without_gone : (xs : List ℕ) (x : ℕ) → holds (without xs x) x ≡ false
without_gone xs x = grind (arith, holds_without xs x x)

pub proper_without : (xs : List ℕ) (x : ℕ) → proper xs ≡ true → proper (without xs x) ≡ true
proper_without [] x p = refl
proper_without (z ∷ zs) x p = grind (arith, holds_without zs x z, proper_without zs x)

-- what is not on a list cannot be taken off
pub without_none : (xs : List ℕ) (x : ℕ) → holds xs x ≡ false → without xs x ≡ xs
without_none [] x h = refl
without_none (z ∷ zs) x h = grind (arith, without_none zs x)

-- of a list without repeats just that order goes, and the others keep their sequence
pub without_around : (before after : List ℕ) (x : ℕ) → proper (before ++ x ∷ after) ≡ true → without (before ++ x ∷ after) x ≡ before ++ after
without_around [] after x p = grind (arith, without_none after x)
without_around (y ∷ ys) after x p = grind (arith, holds_append ys (x ∷ after) y, without_around ys after x)

pub length_without_le : (xs : List ℕ) (x : ℕ) → length (without xs x) ≤ length xs
length_without_le xs x =
    let stays : ℕ → Bool = λ y. not (eqb y x) in
    omega (arith, length-filter_both stays (λ y. not (stays y)) (λ _. refl) xs)

-- where an order stands on a list
pub record Around (xs : List ℕ) (x : ℕ) : Type 0 where
  pub before : List ℕ
  pub after : List ℕ
  pub sequence : xs ≡ before ++ x ∷ after

pub around_held : (xs : List ℕ) (x : ℕ) → holds xs x ≡ true → Around xs x
around_held [] x h = absurd (false≢true h)
around_held (z ∷ zs) x h =
    ⊎_elim
    (λ e. record { before = []; after = zs; sequence = ap (λ y. y ∷ zs) (eqb-true z x e) })
    (λ e. let r = around_held zs x e in record { before = z ∷ r.before; after = r.after; sequence = ap (λ ys. z ∷ ys) r.sequence })
    (or_cases _ _ h)

-- a list without repeats has one order less once one that it has is taken off
pub length_without : (xs : List ℕ) (x : ℕ) → proper xs ≡ true → holds xs x ≡ true → length (without xs x) + 1 ≡ length xs
length_without [] x p h = absurd (false≢true h)
length_without (z ∷ zs) x p h = grind (arith, without_none zs x, length_without zs x)

-- ---- steps that no proof here takes any more; docs/PORT.md names them

eqb_sym : (a b : ℕ) → eqb a b ≡ false → eqb b a ≡ false
eqb_sym a b e = grind (arith, e)

-- one element of a filtered list: e says that it is the one that is looked for, h that the rest has that one, q whether
-- that one passes, t whether this element passes
kept_one : (e h q t : Bool) → (e ≡ true → t ≡ q) → cond t (e || (h && q)) (h && q) ≡ ((e || h) && q)
kept_one true h q t same = rw (same refl) (grind arith)
kept_one false h q t same = grind arith

holds_cond : (t : Bool) (z : ℕ) (zs : List ℕ) (y : ℕ) → holds (cond t (z ∷ zs) zs) y ≡ cond t (eqb z y || holds zs y) (holds zs y)
holds_cond t z zs y = grind arith

-- what stands before and after an order on a list without repeats
proper_around : (before after : List ℕ) (x : ℕ) → proper (before ++ x ∷ after) ≡ true → (holds before x ≡ false) × (holds after x ≡ false)
proper_around [] after x p = (refl, grind arith)
proper_around (y ∷ ys) after x p = let r = proper_around ys after x (grind arith) in (grind (arith, r.0, holds_append ys (x ∷ after) y), r.1)
