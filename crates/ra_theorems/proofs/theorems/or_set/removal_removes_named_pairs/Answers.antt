use Rattle.ra_theorems.proofs.TheoremIndex.{removal_removes_named_pairs}
use Rattle.ra_theorems.proofs.theorems.or_set.removal_removes_named_pairs.Goals as goal

pub returns : goal.returns
returns c = removal_removes_named_pairs
