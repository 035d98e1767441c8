use Rattle.ra_rga_conditions.proofs.TheoremIndex.{linearization_meets_plain_conditions}
use Rattle.ra_rga_conditions.proofs.theorems.linearization_meets_plain_conditions.Goals as goal

pub returns : goal.returns
returns c = linearization_meets_plain_conditions
