use Rattle.ra_list_model.proofs.BetweenNeighbors.{update_decided}
use Rattle.ra_list_model.proofs.theorems.order_decides_update.Goals as goal

pub returns : goal.returns
returns c = update_decided
