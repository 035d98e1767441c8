use Rattle.ra_some_order.proofs.NarrowedConditions.{narrow_exactly}
use Rattle.ra_some_order.proofs.theorems.narrow_condition_requires_as_much.Goals as goal

pub returns : goal.returns
returns c = narrow_exactly
