use Rattle.ra_theorems.proofs.TheoremIndex.{cause_none_iff_holds}
use Rattle.ra_theorems.proofs.theorems.fault.cause_none_iff_holds.Goals as goal

pub returns : goal.returns
returns c = cause_none_iff_holds
