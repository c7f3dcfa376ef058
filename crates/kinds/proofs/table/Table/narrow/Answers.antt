-- Taken out, the check leaves these goals open.
use Rattle.kinds.proofs.Tables.{table_first}
use Rattle.kinds.proofs.table.Table.narrow.Goals as goal

pub invariant_of-self : goal.invariant_of-self
invariant_of-self c =
    record { sound = rw c.truncate.ensures.items (table_first c.args.count c.args.self.now.lanes.items c.requires.some c.args.self.now.sound) }
