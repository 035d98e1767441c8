use Rattle.ra_some_order.proofs.LabelOrders.{order_in, met_in}
use Rattle.ra_some_order.proofs.theorems.updates_of_label_order.Goals as goal

pub returns-clause-order : goal.returns-clause-order
returns-clause-order c = order_in

pub returns-clause-conditions : goal.returns-clause-conditions
returns-clause-conditions c = met_in
