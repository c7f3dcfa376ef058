-- Taken out, the check leaves this goal open.
use Rattle.std.proofs.Common.{◌≡◌, arith}
use Rattle.std.specs.Prelude.{length, slice_set}
use Rattle.std.specs.List.{refill}
use Rattle.std.proofs.lemmas.Grind.{common_steps}
use Rattle.bank.specs.Model.{put_in}
use Rattle.bank.proofs.Models.{Fits, sound_put}
use Rattle.kinds.specs.Tables.{deepest}
use Rattle.kinds.proofs.table.Table.push.Goals as goal

pub invariant_of-self : goal.invariant_of-self
invariant_of-self c =
    let held = c.args.self.now.lanes.items in
    let after : refill (length held) held (slice_set c.deref_mut.result.now c.args.lane c.push.new.self) ≡ put_in held c.args.lane c.args.order = grind (arith, common_steps) in
    record {
      sound = λ rule.
          let fits : Fits (deepest held rule) c.args.lane c.args.order = record { there = c.requires.lane; order = c.requires.order; fresh = c.requires.fresh; room = c.requires.room } in
          rw after (sound_put fits (c.args.self.now.sound rule));
    }
