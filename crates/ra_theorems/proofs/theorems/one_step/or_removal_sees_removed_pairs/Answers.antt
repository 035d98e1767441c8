use Rattle.ra_theorems.proofs.TheoremIndex.{or_removal_sees_removed_pairs}
use Rattle.ra_theorems.proofs.theorems.one_step.or_removal_sees_removed_pairs.Goals as goal

pub returns : goal.returns
returns c = or_removal_sees_removed_pairs
