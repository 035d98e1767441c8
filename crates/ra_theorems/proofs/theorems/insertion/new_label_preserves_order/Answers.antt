use Rattle.ra_theorems.proofs.TheoremIndex.{new_label_preserves_order}
use Rattle.ra_theorems.proofs.theorems.insertion.new_label_preserves_order.Goals as goal

pub returns : goal.returns
returns c = new_label_preserves_order
