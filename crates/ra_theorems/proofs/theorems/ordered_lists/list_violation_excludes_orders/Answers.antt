use Rattle.ra_theorems.proofs.TheoremIndex.{list_violation_excludes_orders-fault, list_violation_excludes_orders-finality}
use Rattle.ra_theorems.proofs.theorems.ordered_lists.list_violation_excludes_orders.Goals as goal

pub returns-clause-fault : goal.returns-clause-fault
returns-clause-fault c = list_violation_excludes_orders-fault

pub returns-clause-finality : goal.returns-clause-finality
returns-clause-finality c = list_violation_excludes_orders-finality
