-- Results that follow one another, and one number in its range.
use Rattle.std.proofs.Common.{◌≡◌, ℕ, ◌<◌, ◌≤◌, ◌⊎◌, Ok, Err, Result, refl, ap, arith}
use Rattle.std.proofs.lemmas.Bool.Decides.{nat_tests}
use Rattle.bits.specs.Told.{told}
use Rattle.bits.specs.declared.told.Place.TheVariants.{AtBit}
use Rattle.bits.specs.declared.told.Told.{Told}
use Rattle.recording.specs.Ranges.{and_then, ranged}

pub ok_parts : {X Y : Type 0} (r : Result X Told) (f : X → Result Y Told) (y : Y) → and_then r f ≡ Ok y → (x : X) × (r ≡ Ok x) × (f x ≡ Ok y)
ok_parts (Ok x) f y h = (x, refl, h)
ok_parts {Y = Y} (Err e) f y h = absurd (let z : ◌≡◌ {A = ℕ} 0 1 = cc in let w : ⊥ = omega arith in w)

pub same_ok : {X : Type 0} (x y : X) → ◌≡◌ {A = Result X Told} (Ok x) (Ok y) → x ≡ y
same_ok x y h = cc

pub not_both : {X : Type 0} (x : X) (t : Told) → ◌≡◌ {A = Result X Told} (Ok x) (Err t) → ⊥
not_both x t h = let z : ◌≡◌ {A = ℕ} 0 1 = cc in omega arith

pub same_err : {X Y : Type 0} (t u : Told) → ◌≡◌ {A = Result X Told} (Err t) (Err u) → ◌≡◌ {A = Result Y Told} (Err t) (Err u)
same_err {X} {Y} t u h = let e : t ≡ u = cc in ap (λ (x : Told). Err x) e

-- ---- one number

pub ranged_inside : (p lo hi v x : ℕ) → ranged p lo hi v ≡ Ok x → (lo ≤ v) × (v ≤ hi)
unfolding ranged
ranged_inside p lo hi v x h = (grind (arith, nat_tests), grind (arith, nat_tests))

pub inside_ranged : (p lo hi v : ℕ) → lo ≤ v → v ≤ hi → ranged p lo hi v ≡ Ok v
unfolding ranged
inside_ranged p lo hi v a b = grind (arith, nat_tests)

pub ranged_told : (p lo hi v : ℕ) (t : Told) → ranged p lo hi v ≡ Err t → t ≡ told 2 (AtBit p)
unfolding ranged
ranged_told p lo hi v t h = grind (arith, nat_tests)

-- where the range check refuses
pub ranged_out : (p lo hi v : ℕ) (t : Told) → (t ≡ told 2 (AtBit p)) × ((v < lo) ⊎ (hi < v)) → ranged p lo hi v ≡ Err t
unfolding ranged
ranged_out p lo hi v t h = let e = h.0 in let k = h.1 in grind (arith, nat_tests)
