use Rattle.ra_theorems.proofs.TheoremIndex.{is_update_persists}
use Rattle.ra_theorems.proofs.theorems.visibility.is_update_persists.Goals as goal

pub returns : goal.returns
returns c = is_update_persists
