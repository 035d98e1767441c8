use Rattle.ra_theorems.proofs.TheoremIndex.{or_set_contents-pairs, or_set_contents-rises}
use Rattle.ra_theorems.proofs.theorems.or_set.or_set_contents.Goals as goal

pub returns-clause-pairs : goal.returns-clause-pairs
returns-clause-pairs c = or_set_contents-pairs

pub returns-clause-rises : goal.returns-clause-rises
returns-clause-rises c = or_set_contents-rises
