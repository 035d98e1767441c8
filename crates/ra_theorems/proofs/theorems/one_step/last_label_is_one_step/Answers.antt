use Rattle.ra_theorems.proofs.TheoremIndex.{last_label_is_one_step}
use Rattle.ra_theorems.proofs.theorems.one_step.last_label_is_one_step.Goals as goal

pub returns : goal.returns
returns c = last_label_is_one_step
