use Rattle.ra_theorems.proofs.TheoremIndex.{stamp_taken_iff_label_has_it}
use Rattle.ra_theorems.proofs.theorems.timestamps.stamp_taken_iff_label_has_it.Goals as goal

pub returns : goal.returns
returns c = stamp_taken_iff_label_has_it
