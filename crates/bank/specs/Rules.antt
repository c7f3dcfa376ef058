-- Rules: which of the orders that a lane holds may leave it.
use Rattle.std.specs.Prelude.{ℕ, Bool, true, false, List, [], ◌∷◌, Some, None, Option, ◌==◌}

-- says of a list of held orders, oldest to newest, and of an order on it whether that order may leave
abbrev pub Rule : Type 0
Rule = List ℕ → ℕ → Bool

abbrev pub oldest_of : List ℕ → Option ℕ
oldest_of [] = None
oldest_of (x ∷ xs) = Some x

abbrev pub newest_of : List ℕ → Option ℕ
newest_of [] = None
newest_of (x ∷ []) = Some x
newest_of (x ∷ y ∷ ys) = newest_of (y ∷ ys)

abbrev pub is_that : Option ℕ → ℕ → Bool
is_that None x = false
is_that (Some y) x = y == x

-- a queue: only the oldest may leave
abbrev pub only_oldest : Rule
only_oldest xs x = is_that (oldest_of xs) x

-- a stack: only the newest
abbrev pub only_newest : Rule
only_newest xs x = is_that (newest_of xs) x

-- a pool: every held order
abbrev pub every_held : Rule
every_held xs x = true
