-- What a bank keeps, whatever is put in or taken out.
use Rattle.std.proofs.Common.{◌≡◌, ℕ, ◌<◌, ◌≤◌, true, false, List, [], ◌∷◌, ◌++◌, length, set, Some, None, Option, refl, ap, ◌∙◌, ⊎_elim, arith}
use Rattle.std.specs.List.{All}
use Rattle.std.proofs.lemmas.List.Elements.{All-get_or, All-replicate, All-set}
use Rattle.std.proofs.lemmas.List.{get_or_past, get_or-set_same, length_push, length-replicate, length-set}
use Rattle.std.proofs.lemmas.Bool.{cases_lt}
use Rattle.recording.specs.Record.{max_order}
use Rattle.bank.specs.Orders.{holds, proper}
use Rattle.bank.specs.Model.{Model, Sound, after_offer, after_out, after_put, can_put, cleared, empty_bank, holding, lane_of, lanes_of, max_depth, max_lanes}
use Rattle.bank.specs.Rules.{Rule}
use Rattle.bank.proofs.Orders.{holds_push, length_without_le, proper_push, proper_without}

-- what holds of every lane, and of an empty one, holds of any, there or not
lane_all : (P : List ℕ → Type 0) → P [] → (h : List (List ℕ)) (l : ℕ) → All P h → P (lane_of h l)
lane_all P none h l all = ⊎_elim (λ there. All-get_or P h l [] there all) (λ past. rw (get_or_past h l [] past) none) (cases_lt l (length h))

pub lane_proper : {m : Model} → Sound m → (l : ℕ) → proper (lane_of m.held l) ≡ true
lane_proper {m} s l = lane_all (λ xs. proper xs ≡ true) refl m.held l s.proper

pub lane_short : {m : Model} → Sound m → (l : ℕ) → length (lane_of m.held l) ≤ m.depth
lane_short {m} s l = lane_all (λ xs. length xs ≤ m.depth) (omega arith) m.held l s.short

-- a sound bank stays sound when one lane changes to what a lane may hold
sound_set : {m : Model} → Sound m → (l : ℕ) (xs : List ℕ) → proper xs ≡ true → length xs ≤ m.depth → Sound (holding m (set m.held l xs))
sound_set {m} s l xs p h = record {
  some = omega (arith, length-set m.held l xs, s.some);
  few = omega (arith, length-set m.held l xs, s.few);
  low = s.low;
  high = s.high;
  proper = All-set (λ ys. proper ys ≡ true) m.held l xs p s.proper;
  short = All-set (λ ys. length ys ≤ m.depth) m.held l xs h s.short;
}

-- ---- put

-- lane l takes x
pub record Fits (m : Model) (l x : ℕ) : Type 0 where
  pub there : l < lanes_of m
  pub order : x ≤ max_order
  pub fresh : holds (lane_of m.held l) x ≡ false
  pub room : length (lane_of m.held l) < m.depth

pub put_fits : (m : Model) (l x : ℕ) → can_put m l x ≡ true → Fits m l x
put_fits m l x can = record { there = grind arith; order = grind arith; fresh = grind arith; room = grind arith }

pub fits_put : (m : Model) (l x : ℕ) → Fits m l x → can_put m l x ≡ true
fits_put m l x f = grind arith

module _ {m : Model} {l x : ℕ} (f : Fits m l x) where
  -- the order stands last in its lane
  pub put_last : lane_of (after_put m l x).held l ≡ lane_of m.held l ++ x ∷ []
  put_last = get_or-set_same m.held l _ [] f.there

  -- so it is held
  pub put_held : holds (lane_of (after_put m l x).held l) x ≡ true
  put_held = ap (λ xs. holds xs x) put_last ∙ holds_push (lane_of m.held l) x

  pub sound_put : Sound m → Sound (after_put m l x)
  sound_put s =
      sound_set s l _
      (proper_push _ x (lane_proper s l) f.fresh f.order)
      (omega (arith, length_push (lane_of m.held l) x, f.room))

-- ---- the other calls

pub sound_out : {m : Model} → Sound m → (l x : ℕ) → Sound (after_out m l x)
sound_out {m} s l x =
    sound_set s l _
    (proper_without _ x (lane_proper s l))
    (omega (arith, length_without_le (lane_of m.held l) x, lane_short s l))

pub sound_offer : {m : Model} → Sound m → (l : ℕ) (o : Option ℕ) → Sound (after_offer m l o)
sound_offer s l None = s
sound_offer s l (Some x) = sound_out s l x

-- n empty lanes of depth d are a sound bank, whatever the rule
pub sound_empty : {n d : ℕ} → 1 ≤ n → n ≤ max_lanes → 1 ≤ d → d ≤ max_depth → (r : Rule) → Sound (empty_bank n d r)
sound_empty {n} {d} some few low high r =
    let long = length-replicate {A = List ℕ} n [] in
    record {
      some = omega (arith, long);
      few = omega (arith, long);
      low = low;
      high = high;
      proper = All-replicate (λ xs. proper xs ≡ true) n [] refl;
      short = All-replicate (λ xs. length xs ≤ d) n [] (omega arith);
    }

pub sound_clear : {m : Model} → Sound m → Sound (cleared m)
sound_clear {m} s = sound_empty s.some s.few s.low s.high m.rule
