use Rattle.ra_mvregister_model.proofs.ReadValues.{register_holds, register_has_no_fault}
use Rattle.ra_mvregister_model.proofs.theorems.mvregister_holds_iff_some_sequence.Goals as goal

pub returns-clause-holds : goal.returns-clause-holds
returns-clause-holds c = register_holds

pub returns-clause-fault : goal.returns-clause-fault
returns-clause-fault c = register_has_no_fault
