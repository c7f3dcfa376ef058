-- A number with some of its bits cleared, and others in their place.
use Rattle.std.proofs.Common.{◌≡◌, ℕ, ◌+◌, ◌-◌, ◌*◌, ◌/◌, ◌%◌, ◌^◌, ◌<◌, ◌≤◌, sym, ap, ◌∙◌, mod-eq_of_lt, mul_assoc, add_comm, arith, pow_mono}
use native.Mathlib.Nat.{div-eq_of_lt, mod-mod, mul-mod_left}
use lib.Bits.{bit_and, bit_or, and_zero_r, or_zero_l, or_zero_r}
use lib.Pow.{high_ones, mod-mod-pow}
use Rattle.std.proofs.lemmas.Nat.{and_mask, and_mod, and_shr, field_of, mod_low, or_mod, or_shr, pow-add, pow_pos, shl-shr, shr_below, shr_high, shr-shr}

-- a bit among the lowest t is a bit of the number that these are
pub low_bit : (x t e : ℕ) → e < t → x % 2 ^ t / 2 ^ e % 2 ≡ x / 2 ^ e % 2
low_bit x t e h =
    let q : (t - 1 - e) + 1 + e ≡ t = omega arith in
    rw q at (ap (λ (n : ℕ). n % 2) (field_of x ((t - 1 - e) + 1) e) ∙ mod-mod-pow (x / 2 ^ e) (t - 1 - e) 1)

-- numbers that agree above their lowest k bits agree above any more of them
high_part : (x y k e : ℕ) → k ≤ e → x / 2 ^ k ≡ y / 2 ^ k → x / 2 ^ e ≡ y / 2 ^ e
high_part x y k e h same =
    let q : k + (e - k) ≡ e = omega arith in
    rw q at (sym (shr-shr x k (e - k)) ∙ ap (λ (n : ℕ). n / 2 ^ (e - k)) same ∙ shr-shr y k (e - k))

-- ones but for w zeros above the lowest t
outside : (w t : ℕ) → w + t ≤ 32 → 2 ^ 32 - 1 - (2 ^ w - 1) * 2 ^ t ≡ (2 ^ (32 - (w + t)) - 1) * 2 ^ (w + t) + (2 ^ t - 1)
outside w t h =
    let a = high_ones w t in
    let b = high_ones (32 - (w + t)) (w + t) in
    let q : 32 - (w + t) + (w + t) ≡ 32 = omega arith in
    let c = rw q at b in
    let l : t ≤ w + t = omega arith in
    let d : 2 ^ t ≤ 2 ^ (w + t) = pow_mono l in
    let e : 2 ^ (w + t) ≤ 2 ^ 32 = pow_mono h in
    let f = pow_pos t in
    omega arith

module _ (w t : ℕ) (h : w + t ≤ 32) where
  outside_low : (2 ^ 32 - 1 - (2 ^ w - 1) * 2 ^ t) % 2 ^ t ≡ 2 ^ t - 1
  outside_low =
      let f = pow_pos t in
      let l : 2 ^ t - 1 < 2 ^ t = omega arith in
      rw (outside w t h, pow-add 2 w t, ← mul_assoc (2 ^ (32 - (w + t)) - 1) (2 ^ w) (2 ^ t)) (mod_low _ t _ l)

  outside_field : (2 ^ 32 - 1 - (2 ^ w - 1) * 2 ^ t) / 2 ^ t % 2 ^ w ≡ 0
  outside_field =
      let f = pow_pos t in
      let l : 2 ^ t - 1 < 2 ^ t = omega arith in
      rw (outside w t h, pow-add 2 w t, ← mul_assoc (2 ^ (32 - (w + t)) - 1) (2 ^ w) (2 ^ t), shr_high _ t _ l) (mul-mod_left _ _)

  outside_high : (2 ^ 32 - 1 - (2 ^ w - 1) * 2 ^ t) / 2 ^ (w + t) ≡ 2 ^ (32 - (w + t)) - 1
  outside_high =
      let f = pow_pos t in
      let l : t ≤ w + t = omega arith in
      let d : 2 ^ t ≤ 2 ^ (w + t) = pow_mono l in
      let e : 2 ^ t - 1 < 2 ^ (w + t) = omega arith in
      rw (outside w t h) (shr_high _ (w + t) _ e)

-- x with the w bits above its lowest t cleared, and u in their place
abbrev pub spliced : ℕ → ℕ → ℕ → ℕ → ℕ
spliced x u w t = bit_or (bit_and x (2 ^ 32 - 1 - (2 ^ w - 1) * 2 ^ t)) (u * 2 ^ t)

module _ (x u w t : ℕ) (h : w + t ≤ 32) where
  spliced_low : spliced x u w t % 2 ^ t ≡ x % 2 ^ t
  spliced_low =
      rw (or_mod, and_mod, outside_low w t h, and_mask, mod-mod, mul-mod_left) (or_zero_r (x % 2 ^ t))

  pub spliced_field : u < 2 ^ w → spliced x u w t / 2 ^ t % 2 ^ w ≡ u
  spliced_field l =
      rw (or_shr, and_shr, shl-shr, or_mod, and_mod, outside_field w t h, and_zero_r, or_zero_l (u % 2 ^ w)) (mod-eq_of_lt l)

  spliced_high : x < 2 ^ 32 → u < 2 ^ w → spliced x u w t / 2 ^ (w + t) ≡ x / 2 ^ (w + t)
  spliced_high m l =
      let q : 32 - (w + t) + (w + t) ≡ 32 = omega arith in
      let b : x / 2 ^ (w + t) < 2 ^ (32 - (w + t)) = shr_below x (32 - (w + t)) (w + t) (rw q m) in
      let z : u * 2 ^ t / 2 ^ (w + t) ≡ 0 = rw (add_comm w t, ← shr-shr (u * 2 ^ t) t w, shl-shr u t) (div-eq_of_lt l) in
      rw (or_shr, and_shr, outside_high w t h, and_mask, z, mod-eq_of_lt b) (or_zero_r (x / 2 ^ (w + t)))

  -- the bits below and above the field stay
  pub spliced_below : (e : ℕ) → e < t → spliced x u w t / 2 ^ e % 2 ≡ x / 2 ^ e % 2
  spliced_below e l = sym (low_bit _ t e l) ∙ rw spliced_low (low_bit x t e l)

  pub spliced_above : x < 2 ^ 32 → u < 2 ^ w → (e : ℕ) → w + t ≤ e → spliced x u w t / 2 ^ e % 2 ≡ x / 2 ^ e % 2
  spliced_above m l e k = ap (λ (n : ℕ). n % 2) (high_part _ x (w + t) e k (spliced_high m l))
