use Rattle.ra_rga_conditions.proofs.LabelOrders.{label_order_exactly}
use Rattle.ra_rga_conditions.proofs.theorems.label_order_iff.Goals as goal

pub returns : goal.returns
returns c = label_order_exactly
