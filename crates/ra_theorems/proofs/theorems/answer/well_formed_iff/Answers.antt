use Rattle.ra_theorems.proofs.TheoremIndex.{well_formed_iff}
use Rattle.ra_theorems.proofs.theorems.answer.well_formed_iff.Goals as goal

pub returns : goal.returns
returns c = well_formed_iff
