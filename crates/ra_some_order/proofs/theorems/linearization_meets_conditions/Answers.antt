use Rattle.ra_some_order.proofs.Linearizations.{plain_met, updates_ordered, updates_extended, conditions_met}
use Rattle.ra_some_order.proofs.theorems.linearization_meets_conditions.Goals as goal

pub returns-clause-plain : goal.returns-clause-plain
returns-clause-plain c = plain_met

pub returns-clause-order : goal.returns-clause-order
returns-clause-order c = updates_ordered

pub returns-clause-visibility : goal.returns-clause-visibility
returns-clause-visibility c = updates_extended

pub returns-clause-conditions : goal.returns-clause-conditions
returns-clause-conditions c = conditions_met
