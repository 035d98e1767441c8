use Rattle.ra_some_order.proofs.NewLabels.{conditions-new, conditions-delivery, conditions-join, plain-new}
use Rattle.ra_some_order.proofs.theorems.conditions_after_command.Goals as goal

pub returns-clause-label : goal.returns-clause-label
returns-clause-label c = conditions-new

pub returns-clause-delivery : goal.returns-clause-delivery
returns-clause-delivery c = conditions-delivery

pub returns-clause-join : goal.returns-clause-join
returns-clause-join c = conditions-join

pub returns-clause-plain : goal.returns-clause-plain
returns-clause-plain c = plain-new
