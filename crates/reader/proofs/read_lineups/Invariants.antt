use Rattle.std.proofs.Common.{◌≡◌, ◌-◌, ◌*◌, ◌≤◌, length, take, drop}
use Rattle.reader.specs.Reading.{Moved, lineup_at, lineup_bits, many_at}
use Rattle.recording.specs.Record.{max_entries, parts, total}
use Rattle.reader.proofs.Many.{after}
use Rattle.reader.proofs.read_lineups.Given as goal

abbrev pub invariant-loop-length : goal.invariant-loop-length
invariant-loop-length l =
    let lineup = lineup_at l.initial.cursor.bytes.now in
    let n = length l.initial.lengths in
    let ns = take l.length-index l.lengths in
    record {
      moved : Moved l.initial.cursor l.cursor (lineup_bits * l.length-index);
      few : l.start ≤ max_entries * l.length-index;
      count : total ns ≡ l.start;
      whole : many_at lineup n l.initial.cursor.place ≡ after (parts ns l.entries) (many_at lineup (n - l.length-index) l.cursor.place);
      rest : drop l.start l.entries ≡ drop l.start l.initial.entries;
    }
