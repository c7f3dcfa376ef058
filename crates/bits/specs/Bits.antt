-- Bits and the numbers that they spell, the most significant bit of each byte first.
use Rattle.std.specs.Prelude.{◌≡◌, ℕ, zero, suc, ◌+◌, ◌-◌, ◌*◌, ◌/◌, ◌%◌, ◌^◌, ◌<◌, ◌≤◌, min, ◌⊎◌, List, length, slice_index}

-- The bit at place i of the bytes bs.
unfoldable pub bit_at : List ℕ → ℕ → ℕ
bit_at bs i = slice_index bs (i / 8) / 2 ^ (7 - i % 8) % 2

-- The number that the w bits from place p on spell.
unfoldable pub spelled : List ℕ → ℕ → ℕ → ℕ
spelled bs p zero = 0
spelled bs p (suc w) = spelled bs p w * 2 + bit_at bs (p + w)

-- How many bits of the bytes bs a cursor can reach: all of them, or as many as 64 bits can count.
abbrev pub reach : List ℕ → ℕ
reach bs = min (8 * length bs) (2 ^ 64 - 1)

-- The bytes new are the bytes old, but for the w bits from place p on, which spell v.
pub record Overwritten (old new : List ℕ) (p w v : ℕ) : Type 0 where
  pub field : spelled new p w ≡ v
  pub others : (k : ℕ) → (k < p) ⊎ (p + w ≤ k) → bit_at new k ≡ bit_at old k
  pub long : length new ≡ length old
