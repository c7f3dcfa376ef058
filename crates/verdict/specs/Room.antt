-- How many bytes a line has room for while it is made.
use Rattle.std.specs.Prelude.{ℕ}

abbrev pub room : ℕ
room = 96
