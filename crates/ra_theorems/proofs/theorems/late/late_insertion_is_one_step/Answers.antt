use Rattle.ra_theorems.proofs.TheoremIndex.{late_insertion_is_one_step}
use Rattle.ra_theorems.proofs.theorems.late.late_insertion_is_one_step.Goals as goal

pub returns : goal.returns
returns c = late_insertion_is_one_step
