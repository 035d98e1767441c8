use Rattle.ra_theorems.proofs.TheoremIndex.{delivered_are_updates-updates, delivered_are_updates-there}
use Rattle.ra_theorems.proofs.TheoremIndex.{delivered_are_updates-next}
use Rattle.ra_theorems.proofs.theorems.visibility.delivered_are_updates.Goals as goal

pub returns-clause-updates : goal.returns-clause-updates
returns-clause-updates c = delivered_are_updates-updates

pub returns-clause-there : goal.returns-clause-there
returns-clause-there c = delivered_are_updates-there

pub returns-clause-next : goal.returns-clause-next
returns-clause-next c = delivered_are_updates-next
