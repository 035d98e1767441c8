use Rattle.ra_theorems.proofs.TheoremIndex.{update_admitted_iff_dependency_present-insertion, update_admitted_iff_dependency_present-removal}
use Rattle.ra_theorems.proofs.theorems.waiting.update_admitted_iff_dependency_present.Goals as goal

pub returns-clause-insertion : goal.returns-clause-insertion
returns-clause-insertion c = update_admitted_iff_dependency_present-insertion

pub returns-clause-removal : goal.returns-clause-removal
returns-clause-removal c = update_admitted_iff_dependency_present-removal
