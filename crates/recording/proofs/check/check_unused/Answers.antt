-- Each taken out, the check leaves its goal open.
use Rattle.std.proofs.Common.{◌≡◌, length, refl, rules}
use Rattle.std.proofs.lemmas.Bool.{eqb-true}
use Rattle.recording.specs.Record.{all_entries, max_events, max_stations, no_event}
use Rattle.recording.proofs.Checks.{IsNoEvent, IsZero, all_same, idle_limits, idle_outside, not_same, used_inside}
use Rattle.recording.proofs.Padded.{rest_all}
use Rattle.recording.proofs.check.check_unused.Goals as goal
use Rattle.recording.proofs.check.check_unused.Goals.{else-are_zero-via-then-are_zero+then-all_are+else-all_are-2, else-are_zero-via-then-are_zero+else-all_are, else-are_zero-via-else-are_zero}

pub returns-then-all_are-2 : goal.returns-then-all_are-2
returns-then-all_are-2 c =
    let r = c.args.recording.now in
    let le : length r.events ≡ max_events = search rules in
    let ln : length r.lengths ≡ max_stations = search rules in
    let lc : length r.entries ≡ all_entries = search rules in
    idle_limits r le ln lc (used_inside r c.requires.used) (record {
      events = rw (c.from.ensures, rest_all max_events r.count r.events le) at (all_same IsNoEvent no_event (λ x h. h) _ (c.are_zero.ensures.0 c.if-are_zero.true));
      lengths = rw (c.from-2.ensures, rest_all max_stations r.stations r.lengths ln) at (all_same IsZero 0 (λ x h. eqb-true x 0 h) _ (c.all_are.ensures.0 c.if-all_are.true));
      entries = rw c.requires.entries at (all_same IsZero 0 (λ x h. eqb-true x 0 h) _ (c.all_are-then-all_are.ensures.0 c.if-all_are-2.true));
    })

pub returns-else-are_zero : goal.returns-else-are_zero
returns-else-are_zero c =
    let r = c.args.recording.now in
    let le : length r.events ≡ max_events = search rules in
    let ln : length r.lengths ≡ max_stations = search rules in
    idle_outside r c.requires.used _ c.requires.bit (λ z. elim c.else-are_zero.branch [
      | else-are_zero-via-then-are_zero+then-all_are+else-all_are-2 w ↦ not_same IsZero 0 refl _ _ w.all_are-then-all_are.ensures.1 w.if-all_are-2.false (rw c.requires.entries z.entries)
      | else-are_zero-via-then-are_zero+else-all_are w ↦ not_same IsZero 0 refl _ _ w.all_are.ensures.1 w.if-all_are.false (rw (c.from-2.ensures, rest_all max_stations r.stations r.lengths ln) z.lengths)
      | else-are_zero-via-else-are_zero w ↦ not_same IsNoEvent no_event refl _ _ c.are_zero.ensures.1 w.if-are_zero.false (rw (c.from.ensures, rest_all max_events r.count r.events le) z.events)
    ])
