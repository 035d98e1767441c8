use Rattle.ra_theorems.proofs.TheoremIndex.{counter_bounded_by_updates}
use Rattle.ra_theorems.proofs.theorems.specification.counter_bounded_by_updates.Goals as goal

pub returns : goal.returns
returns c = counter_bounded_by_updates
