use Rattle.ra_list_model.proofs.AdmittedUpdates.{inserted_exactly, removed_exactly}
use Rattle.ra_list_model.proofs.theorems.state_has_what_updates_did.Goals as goal

pub returns-clause-inserted : goal.returns-clause-inserted
returns-clause-inserted c = inserted_exactly

pub returns-clause-removed : goal.returns-clause-removed
returns-clause-removed c = removed_exactly
