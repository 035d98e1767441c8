use Rattle.std.proofs.Common.{sym, arith}
use Rattle.ra_exec_order.proofs.FirstNumbers.{number_there, no_number_there}
use Rattle.ra_exec_order.proofs.exec_order.ExecOrderNamedOrder.at.Goals as goal

pub returns-then-position-self : goal.returns-then-position-self
returns-then-position-self c = sym (number_there c.args.self.now c.args.position (omega (arith, c.if-position-self.true, c.self.view_is)))

pub returns-else-position-self : goal.returns-else-position-self
returns-else-position-self c = sym (no_number_there c.args.self.now c.args.position (omega (arith, c.if-position-self.false, c.self.view_is)))
