-- Each taken out, the check leaves its goal open.
use Rattle.std.proofs.Common.{rules}
use Rattle.recording.specs.Layout.{record_fields}
use Rattle.recording.proofs.Lineups.{full_entries}
use Rattle.writer.proofs.Lays.{ready_front, ready_next, wrote_append}
use Rattle.writer.proofs.laying.lay_recording.Goals as goal

pub lay_header-requires : goal.lay_header-requires
unfolding record_fields
lay_header-requires c = search (rules, ready_front)

pub lay_all-requires : goal.lay_all-requires
unfolding record_fields
lay_all-requires c = search (rules, ready_front, ready_next)

pub lay_lineups-requires : goal.lay_lineups-requires
unfolding record_fields
lay_lineups-requires c = search (rules, ready_next, full_entries)

pub returns : goal.returns
unfolding record_fields
returns c = search (rules, wrote_append)
