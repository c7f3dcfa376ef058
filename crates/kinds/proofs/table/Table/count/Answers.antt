-- Taken out, the check leaves this goal open.
use Rattle.std.proofs.Common.{arith}
use Rattle.bank.specs.Rules.{every_held}
use Rattle.kinds.proofs.table.Table.count.Goals as goal

pub returns-clause-some : goal.returns-clause-some
returns-clause-some c = omega (arith, (c.args.self.now.sound every_held).some)
