use Rattle.ra_theorems.proofs.TheoremIndex.{records_before_fault_longest-prefix, records_before_fault_longest-longest}
use Rattle.ra_theorems.proofs.theorems.fault.records_before_fault_longest.Goals as goal

pub returns-clause-prefix : goal.returns-clause-prefix
returns-clause-prefix c = records_before_fault_longest-prefix

pub returns-clause-longest : goal.returns-clause-longest
returns-clause-longest c = records_before_fault_longest-longest
