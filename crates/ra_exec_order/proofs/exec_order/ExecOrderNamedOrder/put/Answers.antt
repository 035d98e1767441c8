use Rattle.std.proofs.Common.{arith}
use Rattle.ra_exec_order.proofs.FirstNumbers.{length-first_numbers}
use Rattle.ra_exec_order.proofs.exec_order.ExecOrderNamedOrder.put.Goals as goal

pub overflow_add-self : goal.overflow_add-self
overflow_add-self c = omega (arith, length-first_numbers c.args.self.now, c.requires.few, c.self.view_is)
