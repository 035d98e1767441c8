use Rattle.ra_theorems.proofs.TheoremIndex.{label_order_lexicographic}
use Rattle.ra_theorems.proofs.theorems.sequence.label_order_lexicographic.Goals as goal

pub returns : goal.returns
returns c = label_order_lexicographic
