-- Facts about the lanes of a table.
use Rattle.std.specs.Prelude.{◌≡◌, ℕ, ◌+◌, ◌<◌, ◌≤◌, true, List, [], ◌∷◌, ◌++◌, length, take, replicate, slice_index_or, slice_set, All}
use Rattle.std.specs.List.{position, position_or_len, remove}
use Rattle.std.proofs.Common.{suc, Some, None, Bool, false, not, cond, eqb, sym, refl, ap, ◌∙◌, arith}
use Rattle.std.proofs.lemmas.List.Elements.{All-set, All-take}
use Rattle.std.proofs.lemmas.List.{get_or_default, length-take, length-take-le, length-set, replicate_more, take-append-le, take_more_set}
use Rattle.std.proofs.lemmas.Grind.{common_steps}
use Rattle.arrayvec.specs.ArrayVec.{array_vec_len}
use Rattle.bank.specs.Model.{lane_of, max_depth}
use Rattle.bank.specs.Orders.{proper, without}
use Rattle.bank.proofs.Orders.{without_none}
use Rattle.bank.specs.Rules.{every_held}
use Rattle.kinds.specs.Tables.{IsTable}
use Rattle.kinds.specs.declared.lane.Lane.TheInside.{Inside}
use Rattle.kinds.specs.declared.table.Table.{Table}

pub length_used : {A : Type 0} (n : ℕ) (ls : List A) → n ≤ length ls → length (take n ls) ≡ n
length_used n ls h = length-take-le n ls h

pub length_held : (t : Table) → length t.lanes.items ≡ array_vec_len t.lanes
length_held t = refl

-- no lane holds more than its depth
pub orders_short : (lane : Inside) → length lane.held.items ≤ max_depth
orders_short lane = lane.short

pub lanes_short : (t : Table) → All (λ xs. length xs ≤ max_depth) t.lanes.items
lanes_short t = (t.sound every_held).short

-- what lane i holds; d stands for it past the end
pub held_at : (t : Table) (i : ℕ) (d : List ℕ) → i < length t.lanes.items → lane_of t.lanes.items i ≡ slice_index_or t.lanes.items i d
held_at t i d h = get_or_default t.lanes.items i [] d h

-- a change of one lane changes what that lane holds, and no more
pub held_edit : (f : List ℕ → List ℕ) (t : Table) (i : ℕ) (d new : List ℕ) → i < length t.lanes.items → new ≡ f (slice_index_or t.lanes.items i d)
    → slice_set t.lanes.items i new ≡ slice_set t.lanes.items i (f (lane_of t.lanes.items i))
held_edit f t i d new h e = ap (slice_set t.lanes.items i) (e ∙ ap f (sym (held_at t i d h)))

-- one lane more is emptied
pub emptied_more : (ls : List (List ℕ)) (i : ℕ) (new : List ℕ) → i < length ls → new ≡ [] → take i ls ≡ replicate i [] → take (i + 1) (slice_set ls i new) ≡ replicate (i + 1) []
emptied_more ls i new h e so =
    take_more_set ls i new h
    ∙ ap (λ xs. xs ++ new ∷ []) so
    ∙ ap (λ x. replicate i [] ++ x ∷ []) e
    ∙ replicate_more i []

-- a front that is emptied, with whatever lanes after it
pub emptied_front : (n : ℕ) (front rest : List (List ℕ)) → length front ≡ n → take n front ≡ replicate n [] → take n (front ++ rest) ≡ replicate n []
emptied_front n front rest long so = take-append-le n front rest (omega arith) ∙ so

pub all_always : {X : Type 0} (P : X → Type 0) → ((x : X) → P x) → (xs : List X) → All P xs
all_always P f xs = λ k d h. f _

-- what holds of every list of orders that a lane may hold holds of what a table holds
pub held_all : (P : List ℕ → Type 0) → ((xs : List ℕ) → proper xs ≡ true → length xs ≤ max_depth → P xs) → (t : Table) → All P t.lanes.items
held_all P f t = λ k d h. f _ ((t.sound every_held).proper k d h) ((t.sound every_held).short k d h)

-- the first lanes of a table are a table, if there is one
pub table_first : (n : ℕ) (held : List (List ℕ)) → 1 ≤ n → IsTable held → IsTable (take n held)
table_first n held some t = λ rule.
    let s = t rule in
    record {
      some = omega (arith, s.some, length-take n held);
      few = omega (arith, s.few, length-take n held);
      low = s.low;
      high = s.high;
      proper = All-take (λ xs. proper xs ≡ true) n held s.proper;
      short = All-take (λ xs. length xs ≤ max_depth) n held s.short;
    }

-- a table stays a table when one of its lanes is emptied
pub table_emptied : (held : List (List ℕ)) (i : ℕ) → IsTable held → IsTable (slice_set held i [])
table_emptied held i t = λ rule.
    let s = t rule in
    record {
      some = omega (arith, length-set held i [], s.some);
      few = omega (arith, length-set held i [], s.few);
      low = s.low;
      high = s.high;
      proper = All-set (λ xs. proper xs ≡ true) held i [] refl s.proper;
      short = All-set (λ xs. length xs ≤ max_depth) held i [] (omega arith) s.short;
    }

suc_first : (n : ℕ) → 1 + n ≡ suc n
suc_first n = omega arith

remove_first : (b : Bool) (x : ℕ) (xs : List ℕ) (n : ℕ) → remove (x ∷ xs) (cond b (1 + n) 0) ≡ cond b (x ∷ remove xs n) xs
remove_first true x xs n = ap (λ k. remove (x ∷ xs) k) (suc_first n)
remove_first false x xs n = refl

-- of a list without repeats, taking out what stands where an order does, if anywhere, takes out that order
pub remove_without : (xs : List ℕ) (x : ℕ) → proper xs ≡ true → remove xs (position_or_len (λ y. eqb y x) xs) ≡ without xs x
remove_without [] x p = refl
remove_without (z ∷ zs) x p = remove_first (not (eqb z x)) z zs (position_or_len (λ y. eqb y x) zs) ∙ grind (arith, without_none zs x, remove_without zs x)

pub remove_at : (xs : List ℕ) (x i : ℕ) → proper xs ≡ true → position (λ y. eqb y x) xs ≡ Some i → remove xs i ≡ without xs x
remove_at xs x i p e = grind (arith, remove_without xs x)

pub without_nowhere : (xs : List ℕ) (x : ℕ) → proper xs ≡ true → position (λ y. eqb y x) xs ≡ None → without xs x ≡ xs
without_nowhere xs x p e = grind (arith, common_steps, remove_without xs x)
