-- Loops that read items one by one: those so far stand in front of those to come.
use Rattle.std.proofs.Common.{◌≡◌, ℕ, suc, ◌+◌, ◌-◌, ◌<◌, ◌≤◌, List, [], ◌∷◌, ◌++◌, Ok, Err, sym, refl, ap, append_assoc, append-nil, arith}
pub use Rattle.std.proofs.lemmas.List.{take_all, take_more_set}
use Rattle.bits.specs.declared.told.Told.{Told}
use Rattle.recording.specs.Ranges.{and_then}
use Rattle.reader.specs.Reading.{Reading, many_at}

-- items in front of what a reading gives
unfoldable pub after : {A : Type 0} → List A → Reading (List A) → Reading (List A)
after xs r = and_then r (λ rest. Ok (xs ++ rest.0, rest.1))

after_err : {A : Type 0} (xs : List A) (t : Told) → after xs (Err t) ≡ Err t
unfolding after
after_err xs t = refl

pub after_none : {A : Type 0} (r : Reading (List A)) → after [] r ≡ r
unfolding after
after_none (Ok xs) = refl
after_none (Err t) = refl

after_more : {A : Type 0} (xs : List A) (x : A) (r : Reading (List A)) → after xs (and_then r (λ rest. Ok (x ∷ rest.0, rest.1))) ≡ after (xs ++ x ∷ []) r
unfolding after
after_more {A = A} xs x (Ok rest) = ap (λ (l : List A). Ok (l, rest.1)) (sym (append_assoc xs (x ∷ []) rest.0))
after_more xs x (Err t) = refl

module _ {A : Type 0} (item : ℕ → Reading A) (n i p : ℕ) (xs : List A) where
  pub many_more : i < n → after xs (many_at item (n - i) p) ≡ and_then (item p) (λ x. after (xs ++ x.0 ∷ []) (many_at item (n - (i + 1)) x.1))
  unfolding many_at
  many_more h =
      let m : n - i ≡ suc (n - (i + 1)) = omega arith in
      rw m (more (item p))
    where
      more : (r : Reading A) → after xs (and_then r (λ x. and_then (many_at item (n - (i + 1)) x.1) (λ rest. Ok (x.0 ∷ rest.0, rest.1)))) ≡ and_then r (λ x. after (xs ++ x.0 ∷ []) (many_at item (n - (i + 1)) x.1))
      more (Ok x) = after_more xs x.0 (many_at item (n - (i + 1)) x.1)
      more (Err t) = after_err xs t

  pub many_all : n ≤ i → after xs (many_at item (n - i) p) ≡ Ok (xs, p)
  unfolding many_at after
  many_all h =
      let m : n - i ≡ 0 = omega arith in
      rw (m, append-nil xs)

-- what the loops use
pub ruleset many_steps = (after_none, many_more, many_all, take_all, take_more_set)
