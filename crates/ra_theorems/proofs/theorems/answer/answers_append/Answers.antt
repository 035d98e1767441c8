use Rattle.ra_theorems.proofs.TheoremIndex.{answers_append-replies, answers_append-records}
use Rattle.ra_theorems.proofs.theorems.answer.answers_append.Goals as goal

pub returns-clause-replies : goal.returns-clause-replies
returns-clause-replies c = answers_append-replies

pub returns-clause-records : goal.returns-clause-records
returns-clause-records c = answers_append-records
