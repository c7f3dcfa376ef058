-- One field: what stands there is read, and what was read stands there.
use Rattle.std.proofs.Common.{◌≡◌, ℕ, ◌+◌, ◌*◌, ◌<◌, ◌≤◌, List, length, Ok, Err, arith}
use Rattle.std.proofs.lemmas.Bool.{le-leb}
use Rattle.std.proofs.lemmas.Bool.Decides.{nat_tests}
use Rattle.bits.specs.Bits.{spelled}
use Rattle.bits.specs.Told.{told}
use Rattle.bits.specs.declared.told.Place.TheVariants.{AtBit}
use Rattle.recording.specs.Ranges.{and_then, ranged}
use Rattle.reader.specs.Reading.{field_at}

pub field_back : (bs : List ℕ) (p w lo hi v : ℕ) → spelled bs p w ≡ v → p + w ≤ 8 * length bs → lo ≤ v → v ≤ hi → field_at bs p w lo hi ≡ Ok (v, p + w)
unfolding field_at ranged
field_back bs p w lo hi v h r l m = grind (arith, nat_tests)

-- what a field that was read says
pub record Within (bs : List ℕ) (p w lo hi v q : ℕ) : Type 0 where
  pub room : q ≤ 8 * length bs
  pub end : q ≡ p + w
  pub spells : v ≡ spelled bs p w
  pub low : lo ≤ v
  pub high : v ≤ hi

pub field_within : (bs : List ℕ) (p w lo hi v q : ℕ) → field_at bs p w lo hi ≡ Ok (v, q) → Within bs p w lo hi v q
unfolding field_at ranged
field_within bs p w lo hi v q h = grind (arith, nat_tests)

-- ---- steps that no proof here takes any more; docs/PORT.md names them

module _ (bs : List ℕ) (p w lo hi : ℕ) where
  -- past the end
  pub field_ends : 8 * length bs < p + w → field_at bs p w lo hi ≡ Err (told 1 (AtBit p))
  unfolding field_at
  field_ends h = grind (arith, nat_tests)

  -- where there are so many bits, the field is their number, tried against its range
  pub field_here : p + w ≤ 8 * length bs → (v : ℕ) → v ≡ spelled bs p w → field_at bs p w lo hi ≡ and_then (ranged p lo hi v) (λ x. Ok (x, p + w))
  unfolding field_at
  field_here h v e = rw (le-leb (p + w) (8 * length bs) h, e)
