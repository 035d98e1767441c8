use Rattle.ra_theorems.proofs.TheoremIndex.{records_to_ends_with_label-there, records_to_ends_with_label-none}
use Rattle.ra_theorems.proofs.theorems.records.records_to_ends_with_label.Goals as goal

pub returns-clause-there : goal.returns-clause-there
returns-clause-there c = records_to_ends_with_label-there

pub returns-clause-none : goal.returns-clause-none
returns-clause-none c = records_to_ends_with_label-none
