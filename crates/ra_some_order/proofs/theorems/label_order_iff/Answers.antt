use Rattle.ra_some_order.proofs.LabelSequences.{label_order_exactly}
use Rattle.ra_some_order.proofs.theorems.label_order_iff.Goals as goal

pub returns : goal.returns
returns c = label_order_exactly
