use Rattle.ra_any_model.proofs.AgreeingReads.{new_read, no_read}
use Rattle.ra_any_model.proofs.theorems.new_read_decides_agreement.Goals as goal

pub returns-clause-read : goal.returns-clause-read
returns-clause-read c = new_read

pub returns-clause-other : goal.returns-clause-other
returns-clause-other c = no_read
