use Rattle.ra_theorems.proofs.TheoremIndex.{register_value-none, register_value-last}
use Rattle.ra_theorems.proofs.theorems.specification.register_value.Goals as goal

pub returns-clause-none : goal.returns-clause-none
returns-clause-none c = register_value-none

pub returns-clause-last : goal.returns-clause-last
returns-clause-last c = register_value-last
