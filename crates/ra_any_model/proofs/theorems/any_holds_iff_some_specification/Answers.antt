use Rattle.ra_any_model.proofs.ExplainedReads.{any_holds, any_has_no_fault}
use Rattle.ra_any_model.proofs.theorems.any_holds_iff_some_specification.Goals as goal

pub returns-clause-holds : goal.returns-clause-holds
returns-clause-holds c = any_holds

pub returns-clause-fault : goal.returns-clause-fault
returns-clause-fault c = any_has_no_fault
