-- Lists at the front of a fixed number of places.
use Rattle.std.proofs.Common.{◌≡◌, ℕ, suc, ◌+◌, ◌-◌, ◌<◌, ◌≤◌, List, [], ◌∷◌, ◌++◌, length, take, drop, set, replicate, sym, ap, ◌∙◌, append_assoc, append-nil, arith, length-append, length-drop, take-append-drop, length-take}
use native.Mathlib.Nat.{sub-zero}
use lib.ListN.{length-replicate}
use Rattle.std.proofs.lemmas.List.{set_at, take_at, drop_at, take_all, drop_all, drop-replicate}
use Rattle.recording.specs.Record.{padded}

module _ {A : Type 0} (n : ℕ) (z : A) where
  pub padded_none : padded n z [] ≡ replicate n z
  unfolding padded
  padded_none = rw sub-zero

  pub padded_more : (xs : List A) (i : ℕ) (x : A) → length xs ≡ i → i < n → set (padded n z xs) i x ≡ padded n z (xs ++ x ∷ [])
  unfolding padded
  padded_more xs i x l h =
      let m : n - length xs ≡ suc (n - length (xs ++ x ∷ [])) = simp length-append (omega arith) in
      rw (m, set_at xs z (replicate (n - length (xs ++ x ∷ [])) z) x i l) (sym (append_assoc xs (x ∷ []) _))

  -- the places from a on, taken as a part of their own, get ys at their front
  pub padded_splice : (xs ys part all : List A) (a k : ℕ) → all ≡ padded n z xs → length xs ≡ a → length ys ≡ k → a + k ≤ n
      → part ≡ ys ++ drop k (take (n - a) (drop a all)) → take a all ++ (part ++ drop (n - a) (drop a all)) ≡ padded n z (xs ++ ys)
  unfolding padded
  padded_splice xs ys part all a k e l m h p =
      let rest = replicate (n - length xs) z in
      let t : take a all ≡ xs = rw e (take_at xs rest a l) in
      let d : drop a all ≡ rest = rw e (drop_at xs rest a l) in
      let r : length rest ≡ n - a = length-replicate (n - length xs) z ∙ omega arith in
      let f : take (n - a) rest ≡ rest = take_all (n - a) rest (omega arith) in
      let g : drop (n - a) rest ≡ [] = drop_all (n - a) rest (omega arith) in
      let j : drop k rest ≡ replicate (n - length (xs ++ ys)) z =
      drop-replicate k (n - length xs) z ∙ ap (λ (i : ℕ). replicate i z) (simp length-append (omega arith)) in
      rw (p, t, d, f, g, j, append-nil) (sym (append_assoc xs ys (replicate (n - length (xs ++ ys)) z)))

  -- a part from the first place on gets ys, and fills up to k places
  pub padded_front : (ys : List A) (k : ℕ) → length ys ≡ k → ys ++ drop k (replicate n z) ≡ padded n z ys
  unfolding padded
  padded_front ys k l = rw (drop-replicate k n z, ← l)

  pub take_padded : (xs : List A) (k : ℕ) → length xs ≡ k → take k (padded n z xs) ≡ xs
  unfolding padded
  take_padded xs k l = take_at xs (replicate (n - length xs) z) k l

  length_padded : (xs : List A) → length (padded n z xs) ≡ length xs + (n - length xs)
  unfolding padded
  length_padded xs = simp (length-append, length-replicate)

  -- the first k places are there
  pub front_full : (xs : List A) (k : ℕ) → k ≤ n → xs ≡ padded n z (take k xs) → length (take k xs) ≡ k
  front_full xs k h e =
      let a = length_padded (take k xs) in
      let b = ap (λ (l : List A). length l) e in
      let c = length-take k xs in
      omega arith

  pub padded_long : (xs : List A) (k : ℕ) → xs ≡ padded n z (take k xs) → n ≤ length xs
  padded_long xs k e =
      let a = length_padded (take k xs) in
      let b = ap (λ (l : List A). length l) e in
      omega arith

  -- a list whose places from k on hold z, and back
  pub padded_back : (xs : List A) (k : ℕ) → k ≤ n → length xs ≡ n → drop k xs ≡ replicate (length (drop k xs)) z → xs ≡ padded n z (take k xs)
  unfolding padded
  padded_back xs k h l d =
      let a = length-drop k xs in
      let b = length-take k xs in
      let e : length (drop k xs) ≡ n - length (take k xs) = omega arith in
      sym (take-append-drop k xs) ∙ ap (λ (x : List A). take k xs ++ x) (d ∙ ap (λ (i : ℕ). replicate i z) e)

  pub padded_rest : (xs : List A) (k : ℕ) → k ≤ n → xs ≡ padded n z (take k xs) → drop k xs ≡ replicate (n - k) z
  unfolding padded
  padded_rest xs k h e =
      let f = front_full xs k h e in
      ap (drop k) e ∙ rw (drop_at (take k xs) (replicate (n - length (take k xs)) z) k f, f)

-- the places from k on, as a part of n places
pub rest_all : {A : Type 0} (n k : ℕ) (xs : List A) → length xs ≡ n → take (n - k) (drop k xs) ≡ drop k xs
rest_all n k xs l = take_all (n - k) (drop k xs) (simp length-drop (omega arith))
