use Rattle.ra_some_order.proofs.Explanations.{some_order_exactly}
use Rattle.ra_some_order.proofs.theorems.some_order_iff.Goals as goal

pub returns : goal.returns
returns c = some_order_exactly
