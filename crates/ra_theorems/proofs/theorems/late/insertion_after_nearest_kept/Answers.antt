use Rattle.ra_theorems.proofs.TheoremIndex.{insertion_after_nearest_kept}
use Rattle.ra_theorems.proofs.theorems.late.insertion_after_nearest_kept.Goals as goal

pub returns : goal.returns
returns c = insertion_after_nearest_kept
