use Rattle.ra_theorems.proofs.TheoremIndex.{sees_earlier_updates-earlier, sees_earlier_updates-updates}
use Rattle.ra_theorems.proofs.TheoremIndex.{sees_earlier_updates-itself}
use Rattle.ra_theorems.proofs.theorems.visibility.sees_earlier_updates.Goals as goal

pub returns-clause-earlier : goal.returns-clause-earlier
returns-clause-earlier c = sees_earlier_updates-earlier

pub returns-clause-updates : goal.returns-clause-updates
returns-clause-updates c = sees_earlier_updates-updates

pub returns-clause-itself : goal.returns-clause-itself
returns-clause-itself c = sees_earlier_updates-itself
