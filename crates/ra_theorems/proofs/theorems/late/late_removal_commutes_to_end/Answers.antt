use Rattle.ra_theorems.proofs.TheoremIndex.{late_removal_commutes_to_end}
use Rattle.ra_theorems.proofs.theorems.late.late_removal_commutes_to_end.Goals as goal

pub returns : goal.returns
returns c = late_removal_commutes_to_end
