use Rattle.ra_list_order.proofs.ReadLists.{extends_read_iff}
use Rattle.ra_list_order.proofs.theorems.order_extends_read_iff.Goals as goal

pub returns : goal.returns
returns c = extends_read_iff
