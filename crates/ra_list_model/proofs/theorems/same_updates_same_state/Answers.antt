use Rattle.ra_list_model.proofs.RisingStates.{same_updates_same}
use Rattle.ra_list_model.proofs.theorems.same_updates_same_state.Goals as goal

pub returns : goal.returns
returns c = same_updates_same
