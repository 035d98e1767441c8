use Rattle.ra_theorems.proofs.TheoremIndex.{cause_is_first_failed-order, cause_is_first_failed-update, cause_is_first_failed-query}
use Rattle.ra_theorems.proofs.theorems.fault.cause_is_first_failed.Goals as goal

pub returns-clause-order : goal.returns-clause-order
returns-clause-order c = cause_is_first_failed-order

pub returns-clause-update : goal.returns-clause-update
returns-clause-update c = cause_is_first_failed-update

pub returns-clause-query : goal.returns-clause-query
returns-clause-query c = cause_is_first_failed-query
