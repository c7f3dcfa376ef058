use Rattle.std.proofs.Common.{drop}
use Rattle.std.specs.List.{flat_map}
use Rattle.recording.specs.Layout.{lineup_fields}
use Rattle.recording.specs.Record.{parts}
use Rattle.writer.proofs.Lays.{LeftLineups}
use Rattle.writer.proofs.laying.lay_lineups.Given as goal

abbrev pub invariant-loop-length : goal.invariant-loop-length
invariant-loop-length l = LeftLineups l.initial.into l.into (flat_map lineup_fields (parts l.lengths l.entries)) (drop l.length-index l.lengths) l.rest
