use Rattle.ra_theorems.proofs.TheoremIndex.{register_read_answer}
use Rattle.ra_theorems.proofs.theorems.specification.register_read_answer.Goals as goal

pub returns : goal.returns
returns c = register_read_answer
