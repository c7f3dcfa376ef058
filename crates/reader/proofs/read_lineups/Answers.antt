-- Taken out, the check leaves this goal open.
use Rattle.std.proofs.Common.{◌≡◌, ℕ, ◌+◌, ◌-◌, ◌∷◌, [], ◌++◌, List, length, take, sym, ap, ◌∙◌, arith}
use Rattle.std.proofs.lemmas.Grind.{common_steps}
use Rattle.recording.specs.Record.{parts}
use Rattle.reader.specs.Reading.{lineup_at, many_at}
use Rattle.reader.proofs.Lineups.{parts_next, rest_next, total_next}
use Rattle.reader.proofs.Many.{after, many_steps}
use Rattle.reader.proofs.read_lineups.Goals as goal

pub loop-length-preserved : goal.loop-length-preserved
loop-length-preserved c =
    let so_far = c.loop-length.invariant in
    let ns = c.loop-length.lengths in
    let es = c.loop-length.entries in
    let new = c.read_lineup.new.slots in
    let i = c.loop-length.length-index in
    let a = c.loop-length.start in
    let m = c.in_ok-length.field-0 in
    let lineup = lineup_at c.args.cursor.now.bytes.now in
    let n = length c.args.lengths.now in
    let so = parts (take i ns) es in
    let behind = many_at lineup (n - (i + 1)) c.read_lineup.new.cursor.place in
    let more : after so (many_at lineup (n - i) c.loop-length.cursor.place) ≡ after (so ++ take m new ∷ []) behind = grind (arith, many_steps) in
    record {
      moved = grind (arith, common_steps);
      few = grind arith;
      count = rw c.from-start.ensures (total_next ns es new i m a so_far.count (omega arith) (omega arith));
      whole = so_far.whole ∙ more ∙ ap (λ (ps : List (List ℕ)). after ps behind) (sym (parts_next ns es new i m a so_far.count (omega arith) (omega arith)));
      rest = rw c.from-start.ensures (rest_next ns es new i m a so_far.count (omega arith) (omega arith) c.args.entries.now so_far.rest c.in_ok-length.ensures.rest.1);
    }
