use Rattle.ra_theorems.proofs.TheoremIndex.{settled_not_pending}
use Rattle.ra_theorems.proofs.theorems.settled.settled_not_pending.Goals as goal

pub returns : goal.returns
returns c = settled_not_pending
