use Rattle.ra_theorems.proofs.TheoremIndex.{stamp_order_lexicographic-less, stamp_order_lexicographic-equal}
use Rattle.ra_theorems.proofs.TheoremIndex.{stamp_order_lexicographic-derived}
use Rattle.ra_theorems.proofs.theorems.sequence.stamp_order_lexicographic.Goals as goal

pub returns-clause-less : goal.returns-clause-less
returns-clause-less c = stamp_order_lexicographic-less

pub returns-clause-equal : goal.returns-clause-equal
returns-clause-equal c = stamp_order_lexicographic-equal

pub returns-clause-derived : goal.returns-clause-derived
returns-clause-derived c = stamp_order_lexicographic-derived
