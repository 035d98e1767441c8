use Rattle.ra_rga_conditions.proofs.LabelOrders.{label_order_explains}
use Rattle.ra_rga_conditions.proofs.theorems.label_order_explains.Goals as goal

pub returns : goal.returns
returns c = label_order_explains
