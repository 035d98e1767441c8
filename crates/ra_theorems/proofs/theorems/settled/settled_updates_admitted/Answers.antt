use Rattle.ra_theorems.proofs.TheoremIndex.{settled_updates_admitted-settled, settled_updates_admitted-all, settled_updates_admitted-same}
use Rattle.ra_theorems.proofs.theorems.settled.settled_updates_admitted.Goals as goal

pub returns-clause-settled : goal.returns-clause-settled
returns-clause-settled c = settled_updates_admitted-settled

pub returns-clause-all : goal.returns-clause-all
returns-clause-all c = settled_updates_admitted-all

pub returns-clause-same : goal.returns-clause-same
returns-clause-same c = settled_updates_admitted-same
