use Rattle.ra_theorems.proofs.TheoremIndex.{violation_is_final}
use Rattle.ra_theorems.proofs.theorems.any_order.violation_is_final.Goals as goal

pub returns : goal.returns
returns c = violation_is_final
