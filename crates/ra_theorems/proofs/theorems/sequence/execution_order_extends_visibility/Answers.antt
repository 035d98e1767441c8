use Rattle.ra_theorems.proofs.TheoremIndex.{execution_order_extends_visibility-labels}
use Rattle.ra_theorems.proofs.TheoremIndex.{execution_order_extends_visibility-counter}
use Rattle.ra_theorems.proofs.TheoremIndex.{execution_order_extends_visibility-or_set}
use Rattle.ra_theorems.proofs.theorems.sequence.execution_order_extends_visibility.Goals as goal

pub returns-clause-labels : goal.returns-clause-labels
returns-clause-labels c = execution_order_extends_visibility-labels

pub returns-clause-counter : goal.returns-clause-counter
returns-clause-counter c = execution_order_extends_visibility-counter

pub returns-clause-or_set : goal.returns-clause-or_set
returns-clause-or_set c = execution_order_extends_visibility-or_set
