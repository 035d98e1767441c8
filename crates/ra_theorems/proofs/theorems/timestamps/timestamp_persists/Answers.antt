use Rattle.ra_theorems.proofs.TheoremIndex.{timestamp_persists}
use Rattle.ra_theorems.proofs.theorems.timestamps.timestamp_persists.Goals as goal

pub returns : goal.returns
returns c = timestamp_persists
