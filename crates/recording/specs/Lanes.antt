-- The kinds of lane, by the codes that name them.
use Rattle.std.specs.Prelude.{◌≡◌, ℕ, ◌<◌, ◌⊎◌, Result, MatchResult}
use Rattle.recording.specs.declared.lane.LaneKind.{LaneKind}
use Rattle.recording.specs.declared.lane.LaneKind.TheVariants.{Queue, Stack, Pool}
use Rattle.recording.specs.declared.lane.OtherLane.{OtherLane}
use Rattle.recording.specs.Record.{max_code}

abbrev pub lane_code : LaneKind → ℕ
lane_code Queue = 1
lane_code Stack = 2
lane_code Pool = 3

-- the result is the kind that the code names, or says that it names none
abbrev pub Names : ℕ → Result LaneKind OtherLane → Type 0
Names code result = MatchResult result (λ kind. lane_code kind ≡ code) (λ _. (code ≡ 0) ⊎ (max_code < code))
