use Rattle.ra_some_order.proofs.AppendedUpdates.{order_with_update, conditions_with_update, order_with_read}
use Rattle.ra_some_order.proofs.theorems.order_after_label.Goals as goal

pub returns-clause-update : goal.returns-clause-update
returns-clause-update c = order_with_update

pub returns-clause-conditions : goal.returns-clause-conditions
returns-clause-conditions c = conditions_with_update

pub returns-clause-read : goal.returns-clause-read
returns-clause-read c = order_with_read
