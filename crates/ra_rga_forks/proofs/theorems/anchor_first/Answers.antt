use Rattle.ra_rga_forks.proofs.TheoremIndex.{anchor_first}
use Rattle.ra_rga_forks.proofs.theorems.anchor_first.Goals as goal

pub returns : goal.returns
returns c = anchor_first
