use Rattle.ra_list_model.proofs.LateUpdates.{late_is_last}
use Rattle.ra_list_model.proofs.theorems.late_update_is_the_last.Goals as goal

pub returns : goal.returns
returns c = late_is_last
