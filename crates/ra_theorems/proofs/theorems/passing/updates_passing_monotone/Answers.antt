use Rattle.ra_theorems.proofs.TheoremIndex.{updates_passing_monotone}
use Rattle.ra_theorems.proofs.theorems.passing.updates_passing_monotone.Goals as goal

pub returns : goal.returns
returns c = updates_passing_monotone
