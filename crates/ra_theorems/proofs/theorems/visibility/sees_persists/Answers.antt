use Rattle.ra_theorems.proofs.TheoremIndex.{sees_persists}
use Rattle.ra_theorems.proofs.theorems.visibility.sees_persists.Goals as goal

pub returns : goal.returns
returns c = sees_persists
