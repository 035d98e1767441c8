use Rattle.ra_theorems.proofs.TheoremIndex.{conditions_of_kinds-others, conditions_of_kinds-order}
use Rattle.ra_theorems.proofs.theorems.fault.conditions_of_kinds.Goals as goal

pub returns-clause-others : goal.returns-clause-others
returns-clause-others c = conditions_of_kinds-others

pub returns-clause-order : goal.returns-clause-order
returns-clause-order c = conditions_of_kinds-order
