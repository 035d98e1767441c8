use Rattle.ra_theorems.proofs.TheoremIndex.{labels_numbered_consecutively}
use Rattle.ra_theorems.proofs.theorems.sequence.labels_numbered_consecutively.Goals as goal

pub returns : goal.returns
returns c = labels_numbered_consecutively
