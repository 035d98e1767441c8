use Rattle.ra_rga_conditions.proofs.TheoremIndex.{stuck_set_is_final}
use Rattle.ra_rga_conditions.proofs.theorems.stuck_set_is_final.Goals as goal

pub returns : goal.returns
returns c = stuck_set_is_final
