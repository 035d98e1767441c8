use Rattle.ra_theorems.proofs.TheoremIndex.{operation_found_as_label-found, operation_found_as_label-stamped}
use Rattle.ra_theorems.proofs.TheoremIndex.{operation_found_as_label-unstamped}
use Rattle.ra_theorems.proofs.theorems.records.operation_found_as_label.Goals as goal

pub returns-clause-found : goal.returns-clause-found
returns-clause-found c = operation_found_as_label-found

pub returns-clause-stamped : goal.returns-clause-stamped
returns-clause-stamped c = operation_found_as_label-stamped

pub returns-clause-unstamped : goal.returns-clause-unstamped
returns-clause-unstamped c = operation_found_as_label-unstamped
