use Rattle.ra_theorems.proofs.TheoremIndex.{operation_accepted_iff}
use Rattle.ra_theorems.proofs.theorems.answer.operation_accepted_iff.Goals as goal

pub returns : goal.returns
returns c = operation_accepted_iff
