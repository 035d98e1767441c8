use Rattle.ra_some_order.proofs.LabelOrders.{names_before, names_after, names_below}
use Rattle.ra_some_order.proofs.theorems.conditions_name_updates.Goals as goal

pub returns-clause-before : goal.returns-clause-before
returns-clause-before c = names_before

pub returns-clause-after : goal.returns-clause-after
returns-clause-after c = names_after

pub returns-clause-below : goal.returns-clause-below
returns-clause-below c = names_below
