use Rattle.ra_exec_order.proofs.TheoremIndex.{execution_order_extends_any_visibility}
use Rattle.ra_exec_order.proofs.theorems.execution_order_extends_any_visibility.Goals as goal

pub returns : goal.returns
returns c = execution_order_extends_any_visibility
