use Rattle.ra_theorems.proofs.TheoremIndex.{delivered_extends_by_one-delivery, delivered_extends_by_one-operation}
use Rattle.ra_theorems.proofs.theorems.passing.delivered_extends_by_one.Goals as goal

pub returns-clause-delivery : goal.returns-clause-delivery
returns-clause-delivery c = delivered_extends_by_one-delivery

pub returns-clause-operation : goal.returns-clause-operation
returns-clause-operation c = delivered_extends_by_one-operation
