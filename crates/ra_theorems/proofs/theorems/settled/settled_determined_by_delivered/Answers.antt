use Rattle.ra_theorems.proofs.TheoremIndex.{settled_determined_by_delivered}
use Rattle.ra_theorems.proofs.theorems.settled.settled_determined_by_delivered.Goals as goal

pub returns : goal.returns
returns c = settled_determined_by_delivered
