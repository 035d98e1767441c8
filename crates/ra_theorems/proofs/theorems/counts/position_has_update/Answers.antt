use Rattle.ra_theorems.proofs.TheoremIndex.{position_has_update-below, position_has_update-there, position_has_update-only}
use Rattle.ra_theorems.proofs.theorems.counts.position_has_update.Goals as goal

pub returns-clause-below : goal.returns-clause-below
returns-clause-below c = position_has_update-below

pub returns-clause-there : goal.returns-clause-there
returns-clause-there c = position_has_update-there

pub returns-clause-only : goal.returns-clause-only
returns-clause-only c = position_has_update-only
