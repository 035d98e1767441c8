use Rattle.ra_rga_conditions.proofs.TheoremIndex.{some_order_iff}
use Rattle.ra_rga_conditions.proofs.theorems.some_order_iff.Goals as goal

pub returns : goal.returns
returns c = some_order_iff
