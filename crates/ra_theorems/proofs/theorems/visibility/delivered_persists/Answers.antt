use Rattle.ra_theorems.proofs.TheoremIndex.{delivered_persists}
use Rattle.ra_theorems.proofs.theorems.visibility.delivered_persists.Goals as goal

pub returns : goal.returns
returns c = delivered_persists
