use Rattle.ra_theorems.proofs.TheoremIndex.{any_order_same_state-admitted, any_order_same_state-counter, any_order_same_state-or_set}
use Rattle.ra_theorems.proofs.theorems.any_order.any_order_same_state.Goals as goal

pub returns-clause-admitted : goal.returns-clause-admitted
returns-clause-admitted c = any_order_same_state-admitted

pub returns-clause-counter : goal.returns-clause-counter
returns-clause-counter c = any_order_same_state-counter

pub returns-clause-or_set : goal.returns-clause-or_set
returns-clause-or_set c = any_order_same_state-or_set
