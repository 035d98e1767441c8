use Rattle.ra_theorems.proofs.TheoremIndex.{or_set_steps_commute}
use Rattle.ra_theorems.proofs.theorems.commuting.or_set_steps_commute.Goals as goal

pub returns : goal.returns
returns c = or_set_steps_commute
