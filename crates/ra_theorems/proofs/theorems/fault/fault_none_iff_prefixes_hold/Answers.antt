use Rattle.ra_theorems.proofs.TheoremIndex.{fault_none_iff_prefixes_hold}
use Rattle.ra_theorems.proofs.theorems.fault.fault_none_iff_prefixes_hold.Goals as goal

pub returns : goal.returns
returns c = fault_none_iff_prefixes_hold
