-- The line that reports a verdict, byte for byte.
use Rattle.std.specs.Prelude.{ℕ, cond, List, ◌++◌, codes, decimal, ◌==◌, Ok, Err, Result}
use Rattle.bits.specs.declared.told.Place.{Place}
use Rattle.bits.specs.declared.told.Place.TheVariants.{AtBit, AtEvent, AtEntry, Needs}
use Rattle.bits.specs.declared.told.Told.{Told}
use Rattle.verdict.specs.Faults.{judge_told}
use Rattle.verdict.specs.declared.fault.JudgeFault.{JudgeFault}
use Rattle.verdict.specs.declared.verdict.Accepted.{Accepted}

-- the word for a kind of lane, by its code
abbrev pub word_of_kind : ℕ → List ℕ
word_of_kind c = cond (c == 1) (codes "queue") (cond (c == 2) (codes "stack") (cond (c == 3) (codes "pool") (codes "other")))

-- a place, with a blank before it
abbrev pub words_of_place : Place → List ℕ
words_of_place (AtBit bit) = codes " bit " ++ decimal bit
words_of_place (AtEvent event) = codes " event " ++ decimal event
words_of_place (AtEntry station entry) = codes " station " ++ decimal station ++ codes " entry " ++ decimal entry
words_of_place (Needs size) = codes " needs " ++ decimal size

abbrev pub accepted_line : Accepted → List ℕ
accepted_line a = codes "accepted " ++ word_of_kind a.code ++ codes " stations " ++ decimal a.stations ++ codes " calls " ++ decimal a.calls ++ codes "\n"

abbrev pub refused_line : Told → List ℕ
refused_line t = codes "refused " ++ decimal t.number ++ words_of_place t.place ++ codes "\n"

abbrev pub line_of : Result Accepted JudgeFault → List ℕ
line_of (Ok a) = accepted_line a
line_of (Err f) = refused_line (judge_told f)
