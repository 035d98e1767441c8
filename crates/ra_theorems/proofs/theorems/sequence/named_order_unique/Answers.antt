use Rattle.ra_theorems.proofs.TheoremIndex.{named_order_unique}
use Rattle.ra_theorems.proofs.theorems.sequence.named_order_unique.Goals as goal

pub returns : goal.returns
returns c = named_order_unique
