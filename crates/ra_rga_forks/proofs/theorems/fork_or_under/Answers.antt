use Rattle.ra_rga_forks.proofs.TheoremIndex.{fork_or_under}
use Rattle.ra_rga_forks.proofs.theorems.fork_or_under.Goals as goal

pub returns : goal.returns
returns c = fork_or_under
