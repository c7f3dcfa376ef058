-- Facts about the bits of a list of bytes and the numbers that they spell.
use Rattle.std.proofs.Common.{◌≡◌, ℕ, zero, suc, ◌+◌, ◌-◌, ◌*◌, ◌/◌, ◌%◌, ◌^◌, ◌<◌, ◌≤◌, List, length, get_or, sym, refl, ap, ◌∙◌, add-zero, add_assoc, add-suc, mod-eq_of_lt, mul_assoc, pow-suc, zero-add, div-one, add-one, arith}
use native.Mathlib.Nat.{mod-one}
use Rattle.std.proofs.lemmas.Nat.{mod_below, mod-pow-add, shr-shr, shr_high, mod_low}
use Rattle.std.proofs.lemmas.List.{ext_get_or}
use Rattle.bits.specs.Bits.{bit_at, spelled}

pub bit_at_lt : (bs : List ℕ) (i : ℕ) → bit_at bs i < 2
unfolding bit_at
bit_at_lt bs i = mod_below _ 2 (omega arith)

pub spelled_lt : (bs : List ℕ) (p w : ℕ) → spelled bs p w < 2 ^ w
unfolding spelled
spelled_lt bs p zero = omega arith
spelled_lt bs p (suc w) = let a = spelled_lt bs p w in let b = bit_at_lt bs (p + w) in rw pow-suc (omega arith)

pub spelled_one : (bs : List ℕ) (p : ℕ) → spelled bs p 1 ≡ bit_at bs p
unfolding spelled
spelled_one bs p = rw add-zero (zero-add (bit_at bs p))

-- a field of a + b bits is one of a bits before one of b
pub spelled_split : (bs : List ℕ) (p a b : ℕ) → spelled bs p (a + b) ≡ spelled bs p a * 2 ^ b + spelled bs (p + a) b
unfolding spelled
spelled_split bs p a zero = rw (add-zero a) (omega arith)
spelled_split bs p a (suc b) =
    let e = spelled_split bs p a b in
    rw (add-suc a b, pow-suc 2 b, e, add_assoc p a b, ← mul_assoc (spelled bs p a) (2 ^ b) 2) (omega arith)

-- the w bits after the first o of o + w + t
pub spelled_cut : (bs : List ℕ) (p o w t : ℕ) → spelled bs p (o + w + t) / 2 ^ t % 2 ^ w ≡ spelled bs (p + o) w
spelled_cut bs p o w t =
    rw (spelled_split bs p (o + w) t, shr_high (spelled bs p (o + w)) t (spelled bs (p + (o + w)) t) (spelled_lt bs (p + (o + w)) t), spelled_split bs p o w)
    (mod_low (spelled bs p o) w (spelled bs (p + o) w) (spelled_lt bs (p + o) w))

-- one bit of what w of them spell
pub spelled_bit : (bs : List ℕ) (p w i : ℕ) → i < w → spelled bs p w / 2 ^ (w - 1 - i) % 2 ≡ bit_at bs (p + i)
spelled_bit bs p w i h =
    let q : i + 1 + (w - 1 - i) ≡ w = omega arith in
    rw q at (spelled_cut bs p i 1 (w - 1 - i)) ∙ spelled_one bs (p + i)

-- bits that are those of a number spell it, as far as they go
pub spelled_from : (bs : List ℕ) (p w v : ℕ) → ((i : ℕ) → i < w → bit_at bs (p + i) ≡ v / 2 ^ (w - 1 - i) % 2) → spelled bs p w ≡ v % 2 ^ w
unfolding spelled
spelled_from bs p zero v h = sym (mod-one v)
spelled_from bs p (suc w) v h =
    let front : spelled bs p w ≡ v / 2 % 2 ^ w =
    spelled_from bs p w (v / 2) (λ i l.
    let q : suc w - 1 - i ≡ 1 + (w - 1 - i) = omega arith in
    (rw q at (h i (omega arith))) ∙ ap (λ (n : ℕ). n % 2) (sym (shr-shr v 1 (w - 1 - i)))) in
    let q : suc w - 1 - w ≡ 0 = omega arith in
    let last : bit_at bs (p + w) ≡ v % 2 = (rw (q, div-one) at (h w (omega arith))) in
    rw (front, last, ← add-one w) (sym (mod-pow-add v w 1))

-- a field depends on its own bits only
pub spelled_same : (cs bs : List ℕ) (p w : ℕ) → ((k : ℕ) → p ≤ k → k < p + w → bit_at cs k ≡ bit_at bs k) → spelled cs p w ≡ spelled bs p w
unfolding spelled
spelled_same cs bs p zero h = refl
spelled_same cs bs p (suc w) h =
    let front = spelled_same cs bs p w (λ k l m. h k l (omega arith)) in
    let last = h (p + w) (omega arith) (omega arith) in
    rw (front, last)

-- a number says each of its bits
pub spelled_inj : (bs cs : List ℕ) (p w : ℕ) → spelled bs p w ≡ spelled cs p w → (k : ℕ) → p ≤ k → k < p + w → bit_at bs k ≡ bit_at cs k
spelled_inj bs cs p w e k l m =
    let q : p + (k - p) ≡ k = omega arith in
    rw q at (sym (spelled_bit bs p w (k - p) (omega arith)) ∙ ap (λ (n : ℕ). n / 2 ^ (w - 1 - (k - p)) % 2) e ∙ spelled_bit cs p w (k - p) (omega arith))

-- ---- a byte and its bits

-- the eight bits of a byte spell it
pub byte_whole : (bs : List ℕ) (i : ℕ) → get_or bs i 0 < 256 → spelled bs (8 * i) 8 ≡ get_or bs i 0
unfolding bit_at
byte_whole bs i h =
    spelled_from bs (8 * i) 8 (get_or bs i 0) (λ j l.
    let q : (8 * i + j) / 8 ≡ i = omega arith in
    let r : (8 * i + j) % 8 ≡ j = omega arith in
    rw (q, r))
    ∙ mod-eq_of_lt h

-- bytes with equal bits are equal
pub same_bytes : (bs cs : List ℕ) → length bs ≡ length cs → ((i : ℕ) → get_or bs i 0 < 256) → ((i : ℕ) → get_or cs i 0 < 256)
    → ((k : ℕ) → k < 8 * length bs → bit_at bs k ≡ bit_at cs k) → bs ≡ cs
same_bytes bs cs e hb hc same =
    ext_get_or 0 bs cs e (λ i l.
    sym (byte_whole bs i (hb i)) ∙ spelled_same bs cs (8 * i) 8 (λ k a b. same k (omega arith)) ∙ byte_whole cs i (hc i))
