-- What a bank means, and what each call does to its meaning.
use Rattle.std.specs.Prelude.{◌≡◌, ℕ, ◌≤◌, Bool, true, not, ◌&&◌, List, [], ◌∷◌, ◌++◌, length, replicate, Some, None, Option, MatchOption, nat_le, nat_lt, slice_index_or, slice_set}
use Rattle.std.specs.List.{All, AllPass}
use Rattle.recording.specs.Record.{max_order, max_stations}
use Rattle.bank.specs.Orders.{holds, without, proper}
use Rattle.bank.specs.Rules.{Rule}

-- the most lanes that a bank has: one for each station
abbrev pub max_lanes : ℕ
max_lanes = max_stations

-- the most orders that a lane may hold, in any bank
abbrev pub max_depth : ℕ
max_depth = 64

-- what a bank means: what each of its lanes holds, from oldest to newest, the lanes in sequence; its depth, which is the
-- most that a lane of it may hold; and its rule. Its number of lanes is how many lists there are.
pub record Model : Type 0 where
  pub held : List (List ℕ)
  pub depth : ℕ
  pub rule : Rule

abbrev pub lanes_of : Model → ℕ
lanes_of m = length m.held

-- what lane l holds; a lane that is not there holds nothing
abbrev pub lane_of : List (List ℕ) → ℕ → List ℕ
lane_of h l = slice_index_or h l []

-- ---- what every bank keeps

pub record Sound (m : Model) : Type 0 where
  pub some : 1 ≤ lanes_of m
  pub few : lanes_of m ≤ max_lanes
  pub low : 1 ≤ m.depth
  pub high : m.depth ≤ max_depth
  pub proper : AllPass proper m.held
  pub short : All (λ xs. length xs ≤ m.depth) m.held

-- ---- what the calls do, by what the lanes hold

-- lane l is there, x is an order that it does not hold, and it holds fewer than d
abbrev pub takes : List (List ℕ) → ℕ → ℕ → ℕ → Bool
takes h d l x = nat_lt l (length h) && (nat_le x max_order && (not (holds (lane_of h l) x) && nat_lt (length (lane_of h l)) d))

-- x stands last in lane l
abbrev pub put_in : List (List ℕ) → ℕ → ℕ → List (List ℕ)
put_in h l x = slice_set h l (lane_of h l ++ x ∷ [])

-- x is gone from lane l, and the others there keep their sequence
abbrev pub taken_out : List (List ℕ) → ℕ → ℕ → List (List ℕ)
taken_out h l x = slice_set h l (without (lane_of h l) x)

-- as many lanes, and nothing in them
abbrev pub none_held : List (List ℕ) → List (List ℕ)
none_held h = replicate (length h) []

-- ---- the same of a bank; depth and rule stay

abbrev pub holding : Model → List (List ℕ) → Model
holding m h = record { held = h; depth = m.depth; rule = m.rule }

abbrev pub can_put : Model → ℕ → ℕ → Bool
can_put m l x = takes m.held m.depth l x

abbrev pub after_put : Model → ℕ → ℕ → Model
after_put m l x = holding m (put_in m.held l x)

-- lane l is there and holds x, and the rule lets x leave
abbrev pub can_leave : Model → ℕ → ℕ → Bool
can_leave m l x = holds (lane_of m.held l) x && m.rule (lane_of m.held l) x

abbrev pub after_out : Model → ℕ → ℕ → Model
after_out m l x = holding m (taken_out m.held l x)

abbrev pub cleared : Model → Model
cleared m = holding m (none_held m.held)

-- nothing exactly where lane l is missing or empty; else an order that may leave, and any of those will do
abbrev pub Offers : Model → ℕ → Option ℕ → Type 0
Offers m l o = MatchOption o (lane_of m.held l ≡ []) (λ x. can_leave m l x ≡ true)

-- after what was offered is taken out
abbrev pub after_offer : Model → ℕ → Option ℕ → Model
after_offer m l None = m
after_offer m l (Some x) = after_out m l x

-- n empty lanes
abbrev pub empty_bank : ℕ → ℕ → Rule → Model
empty_bank n d r = record { held = replicate n []; depth = d; rule = r }
