use Rattle.ra_exec_order.proofs.TheoremIndex.{execution_order_kinds-counter, execution_order_kinds-or_set, execution_order_kinds-list, execution_order_kinds-any, execution_order_kinds-mv_register}
use Rattle.ra_exec_order.proofs.theorems.execution_order_kinds.Goals as goal

pub returns-clause-counter : goal.returns-clause-counter
returns-clause-counter c = execution_order_kinds-counter

pub returns-clause-or_set : goal.returns-clause-or_set
returns-clause-or_set c = execution_order_kinds-or_set

pub returns-clause-list : goal.returns-clause-list
returns-clause-list c = execution_order_kinds-list

pub returns-clause-any : goal.returns-clause-any
returns-clause-any c = execution_order_kinds-any

pub returns-clause-mv_register : goal.returns-clause-mv_register
returns-clause-mv_register c = execution_order_kinds-mv_register
