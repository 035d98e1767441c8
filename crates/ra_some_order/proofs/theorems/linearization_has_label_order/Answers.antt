use Rattle.ra_some_order.proofs.LabelSequences.{linearized_labels, linearized_updates}
use Rattle.ra_some_order.proofs.theorems.linearization_has_label_order.Goals as goal

pub returns-clause-order : goal.returns-clause-order
returns-clause-order c = linearized_labels

pub returns-clause-updates : goal.returns-clause-updates
returns-clause-updates c = linearized_updates
