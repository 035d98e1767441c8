use Rattle.ra_theorems.proofs.TheoremIndex.{updates_admitted_iff_none_pending-exactly}
use Rattle.ra_theorems.proofs.TheoremIndex.{updates_admitted_iff_none_pending-list}
use Rattle.ra_theorems.proofs.TheoremIndex.{updates_admitted_iff_none_pending-shown}
use Rattle.ra_theorems.proofs.theorems.waiting.updates_admitted_iff_none_pending.Goals as goal

pub returns-clause-exactly : goal.returns-clause-exactly
returns-clause-exactly c = updates_admitted_iff_none_pending-exactly

pub returns-clause-list : goal.returns-clause-list
returns-clause-list c = updates_admitted_iff_none_pending-list

pub returns-clause-shown : goal.returns-clause-shown
returns-clause-shown c = updates_admitted_iff_none_pending-shown
