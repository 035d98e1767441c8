use Rattle.ra_some_order.proofs.FewerConditions.{conditions_exactly}
use Rattle.ra_some_order.proofs.theorems.conditions_iff.Goals as goal

pub returns : goal.returns
returns c = conditions_exactly
