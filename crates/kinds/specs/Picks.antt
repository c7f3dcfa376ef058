-- What a rule offers of a list of held orders.
use Rattle.std.specs.Prelude.{◌≡◌, ℕ, true, ◌&&◌, List, [], Option, MatchOption}
use Rattle.bank.specs.Orders.{holds}
use Rattle.bank.specs.Rules.{Rule}

-- nothing exactly of an empty list; else an order on it that may leave
abbrev pub Picks : Rule → List ℕ → Option ℕ → Type 0
Picks rule xs o = MatchOption o (xs ≡ []) (λ x. (holds xs x && rule xs x) ≡ true)
