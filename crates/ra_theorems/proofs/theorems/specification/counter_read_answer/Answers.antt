use Rattle.ra_theorems.proofs.TheoremIndex.{counter_read_answer}
use Rattle.ra_theorems.proofs.theorems.specification.counter_read_answer.Goals as goal

pub returns : goal.returns
returns c = counter_read_answer
