use Rattle.ra_theorems.proofs.TheoremIndex.{stamped_labels_sorted}
use Rattle.ra_theorems.proofs.theorems.arriving.stamped_labels_sorted.Goals as goal

pub returns : goal.returns
returns c = stamped_labels_sorted
