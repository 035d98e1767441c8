use Rattle.ra_rga_conditions.proofs.EarlierRecords.{none_later}
use Rattle.ra_rga_conditions.proofs.theorems.no_order_persists.Goals as goal

pub returns : goal.returns
returns c = none_later
