use Rattle.ra_theorems.proofs.TheoremIndex.{new_update_admitted_iff_dependency_below-insertion}
use Rattle.ra_theorems.proofs.TheoremIndex.{new_update_admitted_iff_dependency_below-removal}
use Rattle.ra_theorems.proofs.theorems.arriving.new_update_admitted_iff_dependency_below.Goals as goal

pub returns-clause-insertion : goal.returns-clause-insertion
returns-clause-insertion c = new_update_admitted_iff_dependency_below-insertion

pub returns-clause-removal : goal.returns-clause-removal
returns-clause-removal c = new_update_admitted_iff_dependency_below-removal
