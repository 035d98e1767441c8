use Rattle.ra_theorems.proofs.TheoremIndex.{first_missing_is_least-some, first_missing_is_least-none}
use Rattle.ra_theorems.proofs.theorems.visibility.first_missing_is_least.Goals as goal

pub returns-clause-some : goal.returns-clause-some
returns-clause-some c = first_missing_is_least-some

pub returns-clause-none : goal.returns-clause-none
returns-clause-none c = first_missing_is_least-none
