use Rattle.ra_visibility.proofs.TheoremIndex.{join_preserves_order-order, join_preserves_order-visibility}
use Rattle.ra_visibility.proofs.theorems.join_preserves_order.Goals as goal

pub returns-clause-order : goal.returns-clause-order
returns-clause-order c = join_preserves_order-order

pub returns-clause-visibility : goal.returns-clause-visibility
returns-clause-visibility c = join_preserves_order-visibility
