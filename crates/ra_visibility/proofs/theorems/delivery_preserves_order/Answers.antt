use Rattle.ra_visibility.proofs.TheoremIndex.{delivery_preserves_order-order, delivery_preserves_order-visibility}
use Rattle.ra_visibility.proofs.theorems.delivery_preserves_order.Goals as goal

pub returns-clause-order : goal.returns-clause-order
returns-clause-order c = delivery_preserves_order-order

pub returns-clause-visibility : goal.returns-clause-visibility
returns-clause-visibility c = delivery_preserves_order-visibility
