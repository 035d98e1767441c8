use Rattle.ra_list_model.proofs.KeptUpdates.{kept_admitted}
use Rattle.ra_list_model.proofs.theorems.kept_updates_are_admitted.Goals as goal

pub returns : goal.returns
returns c = kept_admitted
