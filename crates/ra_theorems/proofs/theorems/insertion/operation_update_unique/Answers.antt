use Rattle.ra_theorems.proofs.TheoremIndex.{operation_update_unique-exactly, operation_update_unique-one}
use Rattle.ra_theorems.proofs.theorems.insertion.operation_update_unique.Goals as goal

pub returns-clause-exactly : goal.returns-clause-exactly
returns-clause-exactly c = operation_update_unique-exactly

pub returns-clause-one : goal.returns-clause-one
returns-clause-one c = operation_update_unique-one
