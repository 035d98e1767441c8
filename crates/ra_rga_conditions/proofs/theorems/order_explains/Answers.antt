use Rattle.ra_rga_conditions.proofs.TheoremIndex.{order_explains}
use Rattle.ra_rga_conditions.proofs.theorems.order_explains.Goals as goal

pub returns : goal.returns
returns c = order_explains
