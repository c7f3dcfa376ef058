use Rattle.std.proofs.Common.{◌≡◌, ◌+◌, ◌*◌, ◌≤◌, length, drop}
use Rattle.std.specs.List.{flat_map}
use Rattle.recording.specs.Layout.{lineup_fields, span}
use Rattle.recording.specs.Ranges.{lineups_tries, try_all}
use Rattle.recording.specs.Record.{all_entries, max_entries, parts, total}
use Rattle.recording.proofs.check.check_lineups.Given as goal

abbrev pub invariant-loop-length : goal.invariant-loop-length
invariant-loop-length l =
    (try_all (lineups_tries l.bit l.lengths l.entries) ≡ try_all (lineups_tries l.rest.bit (drop l.length-index l.lengths) l.rest.entries.now))
    × (l.rest.bit + span (flat_map lineup_fields (parts (drop l.length-index l.lengths) l.rest.entries.now)) ≡ l.bit + span (flat_map lineup_fields (parts l.lengths l.entries)))
    × (drop (total (drop l.length-index l.lengths)) l.rest.entries.now ≡ drop (total l.lengths) l.entries)
    × (all_entries ≤ length l.rest.entries.now + max_entries * l.length-index)
    × (l.rest.bit ≤ l.bit + (10 + 9 * max_entries) * l.length-index)
