use Rattle.ra_theorems.proofs.TheoremIndex.{late_update_commutes_to_end-counter, late_update_commutes_to_end-or_set}
use Rattle.ra_theorems.proofs.theorems.commuting.late_update_commutes_to_end.Goals as goal

pub returns-clause-counter : goal.returns-clause-counter
returns-clause-counter c = late_update_commutes_to_end-counter

pub returns-clause-or_set : goal.returns-clause-or_set
returns-clause-or_set c = late_update_commutes_to_end-or_set
