use Rattle.ra_theorems.proofs.TheoremIndex.{identifiers_unique-one, identifiers_unique-all}
use Rattle.ra_theorems.proofs.theorems.identifiers.identifiers_unique.Goals as goal

pub returns-clause-one : goal.returns-clause-one
returns-clause-one c = identifiers_unique-one

pub returns-clause-all : goal.returns-clause-all
returns-clause-all c = identifiers_unique-all
