use Rattle.ra_theorems.proofs.TheoremIndex.{or_set_operation_is_one_step}
use Rattle.ra_theorems.proofs.theorems.one_step.or_set_operation_is_one_step.Goals as goal

pub returns : goal.returns
returns c = or_set_operation_is_one_step
