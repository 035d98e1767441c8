use Rattle.ra_theorems.proofs.TheoremIndex.{join_accepted_iff}
use Rattle.ra_theorems.proofs.theorems.answer.join_accepted_iff.Goals as goal

pub returns : goal.returns
returns c = join_accepted_iff
