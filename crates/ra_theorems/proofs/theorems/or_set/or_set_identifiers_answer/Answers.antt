use Rattle.ra_theorems.proofs.TheoremIndex.{or_set_identifiers_answer}
use Rattle.ra_theorems.proofs.theorems.or_set.or_set_identifiers_answer.Goals as goal

pub returns : goal.returns
returns c = or_set_identifiers_answer
