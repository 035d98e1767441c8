use Rattle.ra_list_model.proofs.OrderedUpdates.{updates_decided}
use Rattle.ra_list_model.proofs.theorems.order_decides_updates.Goals as goal

pub returns : goal.returns
returns c = updates_decided
