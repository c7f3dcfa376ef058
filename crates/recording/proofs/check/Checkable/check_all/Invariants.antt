use Rattle.std.proofs.Common.{◌≡◌, ◌+◌, ◌*◌, ◌≤◌, drop}
use Rattle.std.specs.List.{flat_map}
use Rattle.recording.specs.Layout.{span}
use Rattle.recording.specs.Ranges.{many_tries, try_all}
use Rattle.recording.proofs.check.Checkable.check_all.Given as goal

abbrev pub invariant-loop-item : goal.invariant-loop-item
invariant-loop-item g l =
    (try_all (many_tries (g.Self.Checkable.tries l.self) g.Self.Checkable.fields l.bit l.items) ≡ try_all (many_tries (g.Self.Checkable.tries l.self) g.Self.Checkable.fields l.end (drop l.item-index l.items)))
    × (l.end + span (flat_map g.Self.Checkable.fields (drop l.item-index l.items)) ≡ l.bit + span (flat_map g.Self.Checkable.fields l.items))
    × (l.end ≤ l.bit + g.Self.Checkable.most * l.item-index)
