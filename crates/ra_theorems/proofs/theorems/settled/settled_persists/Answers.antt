use Rattle.ra_theorems.proofs.TheoremIndex.{settled_persists-waiting}
use Rattle.ra_theorems.proofs.TheoremIndex.{settled_persists-delivery}
use Rattle.ra_theorems.proofs.TheoremIndex.{settled_persists-join}
use Rattle.ra_theorems.proofs.TheoremIndex.{settled_persists-operation}
use Rattle.ra_theorems.proofs.TheoremIndex.{settled_persists-alike}
use Rattle.ra_theorems.proofs.theorems.settled.settled_persists.Goals as goal

pub returns-clause-waiting : goal.returns-clause-waiting
returns-clause-waiting c = settled_persists-waiting

pub returns-clause-delivery : goal.returns-clause-delivery
returns-clause-delivery c = settled_persists-delivery

pub returns-clause-join : goal.returns-clause-join
returns-clause-join c = settled_persists-join

pub returns-clause-operation : goal.returns-clause-operation
returns-clause-operation c = settled_persists-operation

pub returns-clause-alike : goal.returns-clause-alike
returns-clause-alike c = settled_persists-alike
