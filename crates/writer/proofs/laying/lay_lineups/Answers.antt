-- Each taken out, the check leaves its goal open.
use Rattle.std.proofs.Common.{rules}
use Rattle.writer.proofs.Lays.{lineup_ready, lineup_there, lineups_all, lineups_more}
use Rattle.writer.proofs.laying.lay_lineups.Goals as goal

pub split_at-requires : goal.split_at-requires
split_at-requires c = search (rules, lineup_there)

pub lay_lineup-requires : goal.lay_lineup-requires
lay_lineup-requires c = search (rules, lineup_ready)

pub loop-length-preserved : goal.loop-length-preserved
loop-length-preserved c = search (rules, lineups_more)

pub returns : goal.returns
returns c = search (rules, lineups_all)
