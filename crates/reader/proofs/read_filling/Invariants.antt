use Rattle.std.proofs.Common.{◌≡◌, ◌+◌}
use Rattle.recording.specs.Layout.{gap}
use Rattle.reader.specs.Reading.{filling_at}
use Rattle.reader.proofs.read_filling.Given as goal

abbrev pub invariant-loop-cursor : goal.invariant-loop-cursor
invariant-loop-cursor l = record {
  bytes : l.cursor.bytes.now ≡ l.initial.cursor.bytes.now;
  end : l.cursor.place + gap l.cursor.place ≡ l.initial.cursor.place + gap l.initial.cursor.place;
  whole : filling_at l.initial.cursor.bytes.now l.initial.cursor.place (gap l.initial.cursor.place)
      ≡ filling_at l.cursor.bytes.now l.cursor.place (gap l.cursor.place);
}

abbrev pub decreases-loop-cursor : goal.decreases-loop-cursor
decreases-loop-cursor l = gap l.cursor.place
