use Rattle.ra_theorems.proofs.TheoremIndex.{counter_steps_commute}
use Rattle.ra_theorems.proofs.theorems.commuting.counter_steps_commute.Goals as goal

pub returns : goal.returns
returns c = counter_steps_commute
