use Rattle.std.proofs.Common.{◌≡◌, ◌-◌, ◌*◌, length, take}
use Rattle.reader.specs.Reading.{Moved, item_bits, many_at}
use Rattle.reader.proofs.Many.{after}
use Rattle.reader.proofs.Readable.read_all.Given as goal

abbrev pub invariant-loop-slot : goal.invariant-loop-slot
invariant-loop-slot g l =
    let item = g.Self.Readable.at l.self l.initial.cursor.bytes.now in
    let n = length l.initial.slots in
    record {
      moved : Moved l.initial.cursor l.cursor (item_bits * l.slot-index);
      whole : many_at item n l.initial.cursor.place ≡ after (take l.slot-index l.slots) (many_at item (n - l.slot-index) l.cursor.place);
    }
