use Rattle.ra_any_model.proofs.AgreeingReads.{agree_exactly}
use Rattle.ra_any_model.proofs.theorems.reads_agree_iff_same_updates_same_value.Goals as goal

pub returns : goal.returns
returns c = agree_exactly
