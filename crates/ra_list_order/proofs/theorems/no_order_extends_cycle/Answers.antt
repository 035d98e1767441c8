use Rattle.ra_list_order.proofs.Cycles.{no_order_extends_cycle}
use Rattle.ra_list_order.proofs.theorems.no_order_extends_cycle.Goals as goal

pub returns : goal.returns
returns c = no_order_extends_cycle
