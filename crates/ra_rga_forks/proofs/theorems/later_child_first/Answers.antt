use Rattle.ra_rga_forks.proofs.TheoremIndex.{later_child_first}
use Rattle.ra_rga_forks.proofs.theorems.later_child_first.Goals as goal

pub returns : goal.returns
returns c = later_child_first
