use Rattle.ra_theorems.proofs.TheoremIndex.{later_command_preserves_order-rank, later_command_preserves_order-labels}
use Rattle.ra_theorems.proofs.theorems.sequence.later_command_preserves_order.Goals as goal

pub returns-clause-rank : goal.returns-clause-rank
returns-clause-rank c = later_command_preserves_order-rank

pub returns-clause-labels : goal.returns-clause-labels
returns-clause-labels c = later_command_preserves_order-labels
