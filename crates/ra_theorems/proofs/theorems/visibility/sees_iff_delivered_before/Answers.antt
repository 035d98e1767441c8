use Rattle.ra_theorems.proofs.TheoremIndex.{sees_iff_delivered_before}
use Rattle.ra_theorems.proofs.theorems.visibility.sees_iff_delivered_before.Goals as goal

pub returns : goal.returns
returns c = sees_iff_delivered_before
