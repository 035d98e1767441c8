use Rattle.ra_theorems.proofs.TheoremIndex.{linearization_iff_some_order}
use Rattle.ra_theorems.proofs.theorems.ordered_lists.linearization_iff_some_order.Goals as goal

pub returns : goal.returns
returns c = linearization_iff_some_order
