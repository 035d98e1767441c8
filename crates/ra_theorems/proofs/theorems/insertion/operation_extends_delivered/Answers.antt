use Rattle.ra_theorems.proofs.TheoremIndex.{operation_extends_delivered-own, operation_extends_delivered-query, operation_extends_delivered-others}
use Rattle.ra_theorems.proofs.theorems.insertion.operation_extends_delivered.Goals as goal

pub returns-clause-own : goal.returns-clause-own
returns-clause-own c = operation_extends_delivered-own

pub returns-clause-query : goal.returns-clause-query
returns-clause-query c = operation_extends_delivered-query

pub returns-clause-others : goal.returns-clause-others
returns-clause-others c = operation_extends_delivered-others
