use Rattle.ra_theorems.proofs.TheoremIndex.{late_updates_commute-insertions}
use Rattle.ra_theorems.proofs.TheoremIndex.{late_updates_commute-late_removed}
use Rattle.ra_theorems.proofs.TheoremIndex.{late_updates_commute-removed}
use Rattle.ra_theorems.proofs.TheoremIndex.{late_updates_commute-removals}
use Rattle.ra_theorems.proofs.theorems.late.late_updates_commute.Goals as goal

pub returns-clause-insertions : goal.returns-clause-insertions
returns-clause-insertions c = late_updates_commute-insertions

pub returns-clause-late_removed : goal.returns-clause-late_removed
returns-clause-late_removed c = late_updates_commute-late_removed

pub returns-clause-removed : goal.returns-clause-removed
returns-clause-removed c = late_updates_commute-removed

pub returns-clause-removals : goal.returns-clause-removals
returns-clause-removals c = late_updates_commute-removals
