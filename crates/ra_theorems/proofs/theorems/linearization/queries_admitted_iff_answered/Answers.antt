use Rattle.ra_theorems.proofs.TheoremIndex.{queries_admitted_iff_answered}
use Rattle.ra_theorems.proofs.theorems.linearization.queries_admitted_iff_answered.Goals as goal

pub returns : goal.returns
returns c = queries_admitted_iff_answered
