use Rattle.ra_theorems.proofs.TheoremIndex.{order_decides_linearization}
use Rattle.ra_theorems.proofs.theorems.ordered_lists.order_decides_linearization.Goals as goal

pub returns : goal.returns
returns c = order_decides_linearization
