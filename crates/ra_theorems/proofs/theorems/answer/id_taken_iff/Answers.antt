use Rattle.ra_theorems.proofs.TheoremIndex.{id_taken_iff}
use Rattle.ra_theorems.proofs.theorems.answer.id_taken_iff.Goals as goal

pub returns : goal.returns
returns c = id_taken_iff
