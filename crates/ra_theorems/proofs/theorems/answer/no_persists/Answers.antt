use Rattle.ra_theorems.proofs.TheoremIndex.{no_persists-reply, no_persists-records}
use Rattle.ra_theorems.proofs.theorems.answer.no_persists.Goals as goal

pub returns-clause-reply : goal.returns-clause-reply
returns-clause-reply c = no_persists-reply

pub returns-clause-records : goal.returns-clause-records
returns-clause-records c = no_persists-records
