use Rattle.ra_theorems.proofs.TheoremIndex.{addition_adds_pair}
use Rattle.ra_theorems.proofs.theorems.or_set.addition_adds_pair.Goals as goal

pub returns : goal.returns
returns c = addition_adds_pair
