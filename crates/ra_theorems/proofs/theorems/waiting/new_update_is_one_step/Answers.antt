use Rattle.ra_theorems.proofs.TheoremIndex.{new_update_is_one_step-insertion, new_update_is_one_step-removal, new_update_is_one_step-none_waits}
use Rattle.ra_theorems.proofs.theorems.waiting.new_update_is_one_step.Goals as goal

pub returns-clause-insertion : goal.returns-clause-insertion
returns-clause-insertion c = new_update_is_one_step-insertion

pub returns-clause-removal : goal.returns-clause-removal
returns-clause-removal c = new_update_is_one_step-removal

pub returns-clause-none_waits : goal.returns-clause-none_waits
returns-clause-none_waits c = new_update_is_one_step-none_waits
