use Rattle.ra_theorems.proofs.TheoremIndex.{rga_read_answer}
use Rattle.ra_theorems.proofs.theorems.rga.rga_read_answer.Goals as goal

pub returns : goal.returns
returns c = rga_read_answer
