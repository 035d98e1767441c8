use Rattle.ra_theorems.proofs.TheoremIndex.{kind_updates_admitted-only, kind_updates_admitted-exactly}
use Rattle.ra_theorems.proofs.theorems.specification.kind_updates_admitted.Goals as goal

pub returns-clause-only : goal.returns-clause-only
returns-clause-only c = kind_updates_admitted-only

pub returns-clause-exactly : goal.returns-clause-exactly
returns-clause-exactly c = kind_updates_admitted-exactly
