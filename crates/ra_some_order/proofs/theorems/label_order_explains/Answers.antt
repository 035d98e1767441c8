use Rattle.ra_some_order.proofs.LabelSequences.{label_order_explaining}
use Rattle.ra_some_order.proofs.theorems.label_order_explains.Goals as goal

pub returns : goal.returns
returns c = label_order_explaining
