use Rattle.ra_theorems.proofs.TheoremIndex.{linearization_by_visibility}
use Rattle.ra_theorems.proofs.theorems.any_order.linearization_by_visibility.Goals as goal

pub returns : goal.returns
returns c = linearization_by_visibility
