use Rattle.ra_some_order.proofs.Explanations.{explaining_sequence}
use Rattle.ra_some_order.proofs.theorems.order_explains.Goals as goal

pub returns : goal.returns
returns c = explaining_sequence
