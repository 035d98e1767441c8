use Rattle.ra_theorems.proofs.TheoremIndex.{element_inserted_by_one_label-one, element_inserted_by_one_label-other}
use Rattle.ra_theorems.proofs.theorems.waiting.element_inserted_by_one_label.Goals as goal

pub returns-clause-one : goal.returns-clause-one
returns-clause-one c = element_inserted_by_one_label-one

pub returns-clause-other : goal.returns-clause-other
returns-clause-other c = element_inserted_by_one_label-other
