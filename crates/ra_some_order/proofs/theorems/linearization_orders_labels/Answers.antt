use Rattle.ra_some_order.proofs.LabelSequences.{order_of_linearization}
use Rattle.ra_some_order.proofs.theorems.linearization_orders_labels.Goals as goal

pub returns : goal.returns
returns c = order_of_linearization
