use Rattle.ra_theorems.proofs.TheoremIndex.{no_iff_fault}
use Rattle.ra_theorems.proofs.theorems.answer.no_iff_fault.Goals as goal

pub returns : goal.returns
returns c = no_iff_fault
