use Rattle.ra_any_model.proofs.AgreeingReads.{same_exactly}
use Rattle.ra_any_model.proofs.theorems.sees_the_same_iff_delivered.Goals as goal

pub returns : goal.returns
returns c = same_exactly
