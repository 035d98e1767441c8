use Rattle.ra_theorems.proofs.TheoremIndex.{state_after_snoc}
use Rattle.ra_theorems.proofs.theorems.specification.state_after_snoc.Goals as goal

pub returns : goal.returns
returns c = state_after_snoc
