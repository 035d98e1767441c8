use Rattle.ra_some_order.proofs.EarlierRecords.{none_later}
use Rattle.ra_some_order.proofs.theorems.no_order_persists.Goals as goal

pub returns : goal.returns
returns c = none_later
