use Rattle.ra_theorems.proofs.TheoremIndex.{clash_iff_removal_of_added_pair}
use Rattle.ra_theorems.proofs.theorems.commuting.clash_iff_removal_of_added_pair.Goals as goal

pub returns : goal.returns
returns c = clash_iff_removal_of_added_pair
