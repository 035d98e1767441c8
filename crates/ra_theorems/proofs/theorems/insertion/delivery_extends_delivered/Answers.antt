use Rattle.ra_theorems.proofs.TheoremIndex.{delivery_extends_delivered-own, delivery_extends_delivered-order, delivery_extends_delivered-others}
use Rattle.ra_theorems.proofs.theorems.insertion.delivery_extends_delivered.Goals as goal

pub returns-clause-own : goal.returns-clause-own
returns-clause-own c = delivery_extends_delivered-own

pub returns-clause-order : goal.returns-clause-order
returns-clause-order c = delivery_extends_delivered-order

pub returns-clause-others : goal.returns-clause-others
returns-clause-others c = delivery_extends_delivered-others
