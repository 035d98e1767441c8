use Rattle.ra_theorems.proofs.TheoremIndex.{condition_decides-holds, condition_decides-fault}
use Rattle.ra_theorems.proofs.theorems.one_state.condition_decides.Goals as goal

pub returns-clause-holds : goal.returns-clause-holds
returns-clause-holds c = condition_decides-holds

pub returns-clause-fault : goal.returns-clause-fault
returns-clause-fault c = condition_decides-fault
