use Rattle.ra_theorems.proofs.TheoremIndex.{accepted_labels_well_formed-one, accepted_labels_well_formed-all}
use Rattle.ra_theorems.proofs.theorems.answer.accepted_labels_well_formed.Goals as goal

pub returns-clause-one : goal.returns-clause-one
returns-clause-one c = accepted_labels_well_formed-one

pub returns-clause-all : goal.returns-clause-all
returns-clause-all c = accepted_labels_well_formed-all
