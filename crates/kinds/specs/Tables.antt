-- What a table of lanes keeps.
use Rattle.std.specs.Prelude.{ℕ, List}
use Rattle.bank.specs.Model.{Model, Sound, max_depth}
use Rattle.bank.specs.Rules.{Rule}

-- a bank with these lanes, each as deep as a lane may be
abbrev pub deepest : List (List ℕ) → Rule → Model
deepest held rule = record { held = held; depth = max_depth; rule = rule }

-- whatever its rule, such a bank is sound
abbrev pub IsTable : List (List ℕ) → Type 0
IsTable held = (rule : Rule) → Sound (deepest held rule)
