use Rattle.ra_theorems.proofs.TheoremIndex.{records_before_fault_have_none-none, records_before_fault_have_none-all, records_before_fault_have_none-count}
use Rattle.ra_theorems.proofs.theorems.fault.records_before_fault_have_none.Goals as goal

pub returns-clause-none : goal.returns-clause-none
returns-clause-none c = records_before_fault_have_none-none

pub returns-clause-all : goal.returns-clause-all
returns-clause-all c = records_before_fault_have_none-all

pub returns-clause-count : goal.returns-clause-count
returns-clause-count c = records_before_fault_have_none-count
