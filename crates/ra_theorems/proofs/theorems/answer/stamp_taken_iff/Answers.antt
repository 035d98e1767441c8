use Rattle.ra_theorems.proofs.TheoremIndex.{stamp_taken_iff}
use Rattle.ra_theorems.proofs.theorems.answer.stamp_taken_iff.Goals as goal

pub returns : goal.returns
returns c = stamp_taken_iff
