-- Three bytes as one number.
use Rattle.std.proofs.Common.{◌≡◌, ℕ, ◌+◌, ◌*◌, ◌%◌, ◌<◌, List, get_or, ◌∙◌, mod-eq_of_lt, arith}
use lib.Bits.{bit_or, or_shifted}
use Rattle.bits.specs.Bits.{spelled}
use Rattle.bits.proofs.Spells.{byte_whole, spelled_split}

pub three_bytes : (bs : List ℕ) (i : ℕ) → ((k : ℕ) → get_or bs k 0 < 256) → spelled bs (8 * i) 24 ≡ (get_or bs i 0 * 256 + get_or bs (i + 1) 0) * 256 + get_or bs (i + 2) 0
three_bytes bs i h =
    let p : 8 * i + 8 ≡ 8 * (i + 1) = omega arith in
    let q : 8 * i + 16 ≡ 8 * (i + 2) = omega arith in
    let a : spelled bs (8 * i) 16 ≡ spelled bs (8 * i) 8 * 256 + spelled bs (8 * i + 8) 8 = spelled_split bs (8 * i) 8 8 in
    let b : spelled bs (8 * i) 24 ≡ spelled bs (8 * i) 16 * 256 + spelled bs (8 * i + 16) 8 = spelled_split bs (8 * i) 16 8 in
    b ∙ rw (a, p, q, byte_whole bs i (h i), byte_whole bs (i + 1) (h (i + 1)), byte_whole bs (i + 2) (h (i + 2)))

pub or_three : (a b c : ℕ) → a < 256 → b < 256 → c < 256 → bit_or (bit_or ((a * 65536) % 4294967296) ((b * 256) % 4294967296)) c ≡ (a * 256 + b) * 256 + c
or_three a b c ha hb hc =
    let x : (a * 65536) % 4294967296 ≡ a * 65536 = mod-eq_of_lt (omega arith) in
    let y : (b * 256) % 4294967296 ≡ b * 256 = mod-eq_of_lt (omega arith) in
    let u : bit_or (a * 65536) (b * 256) ≡ a * 65536 + b * 256 = or_shifted a 16 (b * 256) (omega arith) in
    let v : a * 65536 + b * 256 ≡ (a * 256 + b) * 256 = omega arith in
    rw (x, y, u, v) (or_shifted (a * 256 + b) 8 c hc)
