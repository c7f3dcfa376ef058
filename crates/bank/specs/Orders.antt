-- Lists of orders, from oldest to newest.
use Rattle.std.specs.Prelude.{ℕ, Bool, true, false, not, ◌&&◌, ◌||◌, List, [], ◌∷◌, filter, ◌==◌, nat_le}
use Rattle.recording.specs.Record.{max_order}

-- the order stands on the list
abbrev pub holds : List ℕ → ℕ → Bool
holds [] x = false
holds (y ∷ ys) x = y == x || holds ys x

-- the list without the order, the others in their sequence
abbrev pub without : List ℕ → ℕ → List ℕ
without xs x = filter (λ y. not (y == x)) xs

-- each is an order, and none stands twice
abbrev pub proper : List ℕ → Bool
proper [] = true
proper (y ∷ ys) = nat_le y max_order && (not (holds ys y) && proper ys)
