use Rattle.ra_theorems.proofs.TheoremIndex.{state_after_nil}
use Rattle.ra_theorems.proofs.theorems.specification.state_after_nil.Goals as goal

pub returns : goal.returns
returns c = state_after_nil
