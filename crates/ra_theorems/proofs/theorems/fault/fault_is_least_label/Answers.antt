use Rattle.ra_theorems.proofs.TheoremIndex.{fault_is_least_label}
use Rattle.ra_theorems.proofs.theorems.fault.fault_is_least_label.Goals as goal

pub returns : goal.returns
returns c = fault_is_least_label
