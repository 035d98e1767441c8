use Rattle.ra_theorems.proofs.TheoremIndex.{fault_persists}
use Rattle.ra_theorems.proofs.theorems.fault.fault_persists.Goals as goal

pub returns : goal.returns
returns c = fault_persists
