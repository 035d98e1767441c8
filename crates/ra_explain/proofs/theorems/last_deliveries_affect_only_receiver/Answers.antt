use Rattle.ra_explain.proofs.LastDeliveries.{had_without, had_there, sees_without, order_without, fault_without}
use Rattle.ra_explain.proofs.theorems.last_deliveries_affect_only_receiver.Goals as goal

pub returns-clause-others : goal.returns-clause-others
returns-clause-others c = had_without

pub returns-clause-sight : goal.returns-clause-sight
returns-clause-sight c = sees_without

pub returns-clause-order : goal.returns-clause-order
returns-clause-order c = order_without

pub returns-clause-fault : goal.returns-clause-fault
returns-clause-fault c = fault_without

pub returns-clause-own : goal.returns-clause-own
returns-clause-own c = had_there
