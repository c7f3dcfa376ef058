-- A number written over the three bytes of a window, and the bits of the bytes after it.
use Rattle.std.proofs.Common.{◌≡◌, ℕ, ◌+◌, ◌-◌, ◌*◌, ◌/◌, ◌%◌, ◌^◌, ◌<◌, ◌≤◌, ◌≢◌, ◌⊎◌, List, length, get_or, set, sym, ap, ◌∙◌, inl, inr, arith, length-set}
use Rattle.std.proofs.lemmas.Nat.{mod_below, pow_pos, shr-shr}
use Rattle.std.proofs.lemmas.List.{get_or_past, get_or-set_other, get_or-set_same}
use Rattle.std.proofs.lemmas.Bool.{cases_lt}
use Rattle.bits.specs.Bits.{bit_at, spelled, Overwritten}
use Rattle.bits.proofs.Spells.{spelled_bit, spelled_from, spelled_lt}
use Rattle.bits.proofs.Splices.{low_bit, spliced, spliced_above, spliced_below, spliced_field}

-- the bytes bs with the lowest 24 bits of n in the window at index f
abbrev pub written : List ℕ → ℕ → ℕ → List ℕ
written bs f n = set (set (set bs f (n / 65536 % 256)) (f + 1) (n / 256 % 256)) (f + 2) (n % 256)

written_long : (bs : List ℕ) (f n : ℕ) → length (written bs f n) ≡ length bs
written_long bs f n = simp length-set

-- a bit of one of a number's bytes
byte_bit : (n k j : ℕ) → j < 8 → n / 2 ^ k % 256 / 2 ^ j % 2 ≡ n / 2 ^ (k + j) % 2
byte_bit n k j h = low_bit (n / 2 ^ k) 8 j h ∙ ap (λ (m : ℕ). m % 2) (shr-shr n k j)

module _ (bs : List ℕ) (f n : ℕ) where
  first_byte : f < length bs → get_or (written bs f n) f 0 ≡ n / 65536 % 256
  first_byte h =
      let a : f ≢ f + 1 = omega arith in
      let b : f ≢ f + 2 = omega arith in
      rw (get_or-set_other, get_or-set_other, get_or-set_same)

  second_byte : f + 1 < length bs → get_or (written bs f n) (f + 1) 0 ≡ n / 256 % 256
  second_byte h =
      let a : f + 1 ≢ f + 2 = omega arith in
      let l : f + 1 < length (set bs f (n / 65536 % 256)) = rw length-set h in
      rw (get_or-set_other, get_or-set_same)

  third_byte : f + 2 < length bs → get_or (written bs f n) (f + 2) 0 ≡ n % 256
  third_byte h =
      let l : f + 2 < length (set (set bs f (n / 65536 % 256)) (f + 1) (n / 256 % 256)) = simp length-set h in
      rw get_or-set_same

  -- the bits beside the window stay, and so do those past the end, which read as 0
  written_outside : (k : ℕ) → (k < 8 * f) ⊎ (8 * f + 24 ≤ k) → bit_at (written bs f n) k ≡ bit_at bs k
  unfolding bit_at
  written_outside k h =
      let a : k / 8 ≢ f = λ e. elim h [ inl l ↦ omega arith | inr l ↦ omega arith ] in
      let b : k / 8 ≢ f + 1 = λ e. elim h [ inl l ↦ omega arith | inr l ↦ omega arith ] in
      let c : k / 8 ≢ f + 2 = λ e. elim h [ inl l ↦ omega arith | inr l ↦ omega arith ] in
      rw (get_or-set_other, get_or-set_other, get_or-set_other)

  written_past : (k : ℕ) → 8 * length bs ≤ k → bit_at (written bs f n) k ≡ bit_at bs k
  unfolding bit_at
  written_past k h =
      let w = written_long bs f n in
      let a : length (written bs f n) ≤ k / 8 = omega arith in
      let b : length bs ≤ k / 8 = omega arith in
      rw (get_or_past (written bs f n) (k / 8) 0 a, get_or_past bs (k / 8) 0 b)

  -- the bits of the window are those of n, as far as the bytes go
  written_inside : (i : ℕ) → i < 24 → 8 * f + i < 8 * length bs → bit_at (written bs f n) (8 * f + i) ≡ n / 2 ^ (23 - i) % 2
  unfolding bit_at
  written_inside i h l =
      let r : (8 * f + i) % 8 ≡ i % 8 = omega arith in
      elim (cases_lt i 8) [
        | inl a ↦ (
            let q : (8 * f + i) / 8 ≡ f = omega arith in
            let s : 16 + (7 - i % 8) ≡ 23 - i = omega arith in
            rw (q, r, first_byte (omega arith)) (rw s at (byte_bit n 16 (7 - i % 8) (omega arith))))
        | inr a ↦ elim (cases_lt i 16) [
          | inl b ↦ (
              let q : (8 * f + i) / 8 ≡ f + 1 = omega arith in
              let s : 8 + (7 - i % 8) ≡ 23 - i = omega arith in
              rw (q, r, second_byte (omega arith)) (rw s at (byte_bit n 8 (7 - i % 8) (omega arith))))
          | inr b ↦ (
              let q : (8 * f + i) / 8 ≡ f + 2 = omega arith in
              let s : 7 - i % 8 ≡ 23 - i = omega arith in
              rw (q, r, third_byte (omega arith), s) (low_bit n 8 (23 - i) (omega arith)))
        ]
      ]

  -- a field within the window and the bytes is that of n
  written_field : (o w : ℕ) → o + w ≤ 24 → 8 * f + o + w ≤ 8 * length bs → spelled (written bs f n) (8 * f + o) w ≡ n / 2 ^ (24 - o - w) % 2 ^ w
  written_field o w h l =
      spelled_from (written bs f n) (8 * f + o) w (n / 2 ^ (24 - o - w)) (λ i m.
      let q : 8 * f + (o + i) ≡ 8 * f + o + i = omega arith in
      let s : 23 - (o + i) ≡ 24 - o - w + (w - 1 - i) = omega arith in
      rw (q, s) at (written_inside (o + i) (omega arith) (omega arith)) ∙ ap (λ (m : ℕ). m % 2) (sym (shr-shr n (24 - o - w) (w - 1 - i))))

  -- a bit stays that n has as the window had it
  written_same : (k : ℕ) → ((i : ℕ) → i < 24 → k ≡ 8 * f + i → n / 2 ^ (23 - i) % 2 ≡ spelled bs (8 * f) 24 / 2 ^ (23 - i) % 2)
      → bit_at (written bs f n) k ≡ bit_at bs k
  written_same k same =
      elim (cases_lt k (8 * length bs)) [
        | inr past ↦ written_past k past
        | inl here ↦ elim (cases_lt k (8 * f)) [
          | inl a ↦ written_outside k (inl a)
          | inr a ↦ elim (cases_lt k (8 * f + 24)) [
            | inr b ↦ written_outside k (inr b)
            | inl b ↦ (
                let q : 8 * f + (k - 8 * f) ≡ k = omega arith in
                let l : k - 8 * f < 24 = omega arith in
                rw q at (written_inside (k - 8 * f) l (omega arith) ∙ same (k - 8 * f) l (sym q) ∙ spelled_bit bs (8 * f) 24 (k - 8 * f) l))
          ]
        ]
      ]

-- the window of the w bits at p, with the lowest bits of v in their place
abbrev pasting : List ℕ → ℕ → ℕ → ℕ → ℕ
pasting bs p w v = spliced (spelled bs (8 * (p / 8)) 24) (v % 2 ^ w) w (24 - p % 8 - w)

pub pasted : (bs : List ℕ) (p w v : ℕ) → w ≤ 12 → p + w ≤ 8 * length bs → Overwritten bs (written bs (p / 8) (pasting bs p w v)) p w (v % 2 ^ w)
pasted bs p w v narrow within =
    let f = p / 8 in
    let t = 24 - p % 8 - w in
    let x = spelled bs (8 * f) 24 in
    let n = pasting bs p w v in
    let small : v % 2 ^ w < 2 ^ w = mod_below v (2 ^ w) (pow_pos w) in
    let low : x < 2 ^ 32 = omega (arith, spelled_lt bs (8 * (p / 8)) 24) in
    let room : w + t ≤ 32 = omega arith in
    let q : 8 * (p / 8) + p % 8 ≡ p = omega arith in
    record {
      field = rw q at (written_field bs f n (p % 8) w (omega arith) (omega arith)) ∙ spliced_field x (v % 2 ^ w) w t room small;
      others = λ k h. written_same bs f n k (λ i l e. elim h [
        | inl a ↦ spliced_above x (v % 2 ^ w) w t room low small (23 - i) (omega arith)
        | inr a ↦ spliced_below x (v % 2 ^ w) w t room (23 - i) (omega arith)
      ]);
      long = written_long bs f n;
    }
