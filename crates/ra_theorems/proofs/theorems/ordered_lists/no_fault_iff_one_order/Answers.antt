use Rattle.ra_theorems.proofs.TheoremIndex.{no_fault_iff_one_order}
use Rattle.ra_theorems.proofs.theorems.ordered_lists.no_fault_iff_one_order.Goals as goal

pub returns : goal.returns
returns c = no_fault_iff_one_order
