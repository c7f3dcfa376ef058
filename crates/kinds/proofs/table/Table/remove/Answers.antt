-- Taken out, the check leaves these goals open.
use Rattle.std.proofs.Common.{◌≡◌, arith}
use Rattle.std.specs.Prelude.{slice_set}
use Rattle.std.proofs.lemmas.Grind.{common_steps}
use Rattle.bank.specs.Model.{taken_out}
use Rattle.bank.specs.Rules.{every_held}
use Rattle.bank.proofs.Models.{lane_proper, sound_out}
use Rattle.kinds.proofs.table.Table.remove.Goals as goal

pub remove-requires : goal.remove-requires
remove-requires c =
    let proper = lane_proper (c.args.self.now.sound every_held) c.args.lane in
    grind (arith, common_steps)

pub invariant_of-self : goal.invariant_of-self
invariant_of-self c =
    let held = c.args.self.now.lanes.items in
    let after : slice_set held c.args.lane c.remove.new.self ≡ taken_out held c.args.lane c.args.order = grind (arith, common_steps) in
    record { sound = λ rule. rw after (sound_out (c.args.self.now.sound rule) c.args.lane c.args.order) }
