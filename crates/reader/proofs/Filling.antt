-- The filling bits, one by one.
use Rattle.std.proofs.Common.{◌≡◌, ℕ, suc, ◌+◌, ◌*◌, ◌%◌, ◌<◌, ◌≤◌, true, false, leb, List, length, Ok, Err, sym, ◌∙◌, arith}
use Rattle.std.proofs.lemmas.Bool.{ne_eqb, leb-true, leb-false, lt-ltb, le-ltb}
use Rattle.bits.specs.Bits.{bit_at, spelled}
use Rattle.bits.specs.Told.{told}
use Rattle.bits.specs.declared.told.Place.TheVariants.{AtBit}
pub use Rattle.bits.proofs.Spells.{spelled_one}
use Rattle.recording.specs.Layout.{gap}
use Rattle.reader.specs.Reading.{filling_at}

pub gap_most : (p : ℕ) → gap p ≤ 7
unfolding gap
gap_most p = omega arith

pub gap_more : (p : ℕ) → (p % 8 ≡ 0 → ⊥) → gap p ≡ suc (gap (p + 1))
unfolding gap
gap_more p h = omega arith

gap_none : (p : ℕ) → p % 8 ≡ 0 → gap p ≡ 0
unfolding gap
gap_none p h = omega arith

module _ (bs : List ℕ) (p : ℕ) where
  pub filling_more : (p % 8 ≡ 0 → ⊥) → spelled bs p 1 ≡ 0 → filling_at bs p (gap p) ≡ filling_at bs (p + 1) (gap (p + 1))
  unfolding filling_at
  filling_more h e = let b : bit_at bs p ≡ 0 = sym (spelled_one bs p) ∙ e in rw (gap_more p h, b)

  pub filling_bad : (p % 8 ≡ 0 → ⊥) → (spelled bs p 1 ≡ 0 → ⊥) → filling_at bs p (gap p) ≡ Err (told 3 (AtBit p))
  unfolding filling_at
  filling_bad h e = let b : bit_at bs p ≡ 0 → ⊥ = (λ z. e (spelled_one bs p ∙ z)) in rw (gap_more p h, ne_eqb (bit_at bs p) 0 b)

  pub filling_over : p % 8 ≡ 0 → leb (8 * length bs) p ≡ false → filling_at bs p (gap p) ≡ Err (told 3 (AtBit p))
  unfolding filling_at
  filling_over h e = let l : p < 8 * length bs = leb-false _ _ e in rw (gap_none p h, lt-ltb p (8 * length bs) l)

  pub filling_done : p % 8 ≡ 0 → leb (8 * length bs) p ≡ true → filling_at bs p (gap p) ≡ Ok p
  unfolding filling_at
  filling_done h e = let l : 8 * length bs ≤ p = leb-true _ _ e in rw (gap_none p h, le-ltb p (8 * length bs) l)

-- what the loop uses
pub ruleset filling_steps = (gap_most, gap_more, spelled_one, filling_more, filling_bad, filling_over, filling_done)
