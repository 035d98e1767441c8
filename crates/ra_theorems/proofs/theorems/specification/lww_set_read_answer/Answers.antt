use Rattle.ra_theorems.proofs.TheoremIndex.{lww_set_read_answer}
use Rattle.ra_theorems.proofs.theorems.specification.lww_set_read_answer.Goals as goal

pub returns : goal.returns
returns c = lww_set_read_answer
