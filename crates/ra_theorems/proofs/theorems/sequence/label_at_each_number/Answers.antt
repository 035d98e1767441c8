use Rattle.ra_theorems.proofs.TheoremIndex.{label_at_each_number-there, label_at_each_number-none, label_at_each_number-found}
use Rattle.ra_theorems.proofs.TheoremIndex.{label_at_each_number-one}
use Rattle.ra_theorems.proofs.theorems.sequence.label_at_each_number.Goals as goal

pub returns-clause-there : goal.returns-clause-there
returns-clause-there c = label_at_each_number-there

pub returns-clause-none : goal.returns-clause-none
returns-clause-none c = label_at_each_number-none

pub returns-clause-found : goal.returns-clause-found
returns-clause-found c = label_at_each_number-found

pub returns-clause-one : goal.returns-clause-one
returns-clause-one c = label_at_each_number-one
