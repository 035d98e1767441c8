use Rattle.ra_theorems.proofs.TheoremIndex.{final_excludes_linearization}
use Rattle.ra_theorems.proofs.theorems.any_order.final_excludes_linearization.Goals as goal

pub returns : goal.returns
returns c = final_excludes_linearization
