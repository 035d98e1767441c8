use Rattle.ra_list_model.proofs.ReorderedUpdates.{reordered_admitted}
use Rattle.ra_list_model.proofs.theorems.admitted_in_another_order.Goals as goal

pub returns : goal.returns
returns c = reordered_admitted
