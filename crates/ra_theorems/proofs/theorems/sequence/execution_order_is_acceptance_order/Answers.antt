use Rattle.ra_theorems.proofs.TheoremIndex.{execution_order_is_acceptance_order-labels, execution_order_is_acceptance_order-counter, execution_order_is_acceptance_order-or_set}
use Rattle.ra_theorems.proofs.theorems.sequence.execution_order_is_acceptance_order.Goals as goal

pub returns-clause-labels : goal.returns-clause-labels
returns-clause-labels c = execution_order_is_acceptance_order-labels

pub returns-clause-counter : goal.returns-clause-counter
returns-clause-counter c = execution_order_is_acceptance_order-counter

pub returns-clause-or_set : goal.returns-clause-or_set
returns-clause-or_set c = execution_order_is_acceptance_order-or_set
