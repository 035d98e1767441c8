use Rattle.ra_theorems.proofs.TheoremIndex.{dependency_inserted_before}
use Rattle.ra_theorems.proofs.theorems.settled.dependency_inserted_before.Goals as goal

pub returns : goal.returns
returns c = dependency_inserted_before
