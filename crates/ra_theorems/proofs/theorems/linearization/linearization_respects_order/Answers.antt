use Rattle.ra_theorems.proofs.TheoremIndex.{linearization_respects_order}
use Rattle.ra_theorems.proofs.theorems.linearization.linearization_respects_order.Goals as goal

pub returns : goal.returns
returns c = linearization_respects_order
