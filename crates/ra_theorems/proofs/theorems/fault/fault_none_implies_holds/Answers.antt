use Rattle.ra_theorems.proofs.TheoremIndex.{fault_none_implies_holds}
use Rattle.ra_theorems.proofs.theorems.fault.fault_none_implies_holds.Goals as goal

pub returns : goal.returns
returns c = fault_none_implies_holds
