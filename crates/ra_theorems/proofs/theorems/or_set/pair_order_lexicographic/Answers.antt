use Rattle.ra_theorems.proofs.TheoremIndex.{pair_order_lexicographic-less, pair_order_lexicographic-equal}
use Rattle.ra_theorems.proofs.theorems.or_set.pair_order_lexicographic.Goals as goal

pub returns-clause-less : goal.returns-clause-less
returns-clause-less c = pair_order_lexicographic-less

pub returns-clause-equal : goal.returns-clause-equal
returns-clause-equal c = pair_order_lexicographic-equal
