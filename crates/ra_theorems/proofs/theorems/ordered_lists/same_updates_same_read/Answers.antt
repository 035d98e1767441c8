use Rattle.ra_theorems.proofs.TheoremIndex.{same_updates_same_read}
use Rattle.ra_theorems.proofs.theorems.ordered_lists.same_updates_same_read.Goals as goal

pub returns : goal.returns
returns c = same_updates_same_read
