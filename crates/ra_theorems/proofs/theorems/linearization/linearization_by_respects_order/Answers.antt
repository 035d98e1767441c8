use Rattle.ra_theorems.proofs.TheoremIndex.{linearization_by_respects_order}
use Rattle.ra_theorems.proofs.theorems.linearization.linearization_by_respects_order.Goals as goal

pub returns : goal.returns
returns c = linearization_by_respects_order
