use Rattle.ra_theorems.proofs.TheoremIndex.{label_position_by_order-before}
use Rattle.ra_theorems.proofs.TheoremIndex.{label_position_by_order-behind}
use Rattle.ra_theorems.proofs.TheoremIndex.{label_position_by_order-place}
use Rattle.ra_theorems.proofs.theorems.arriving.label_position_by_order.Goals as goal

pub returns-clause-before : goal.returns-clause-before
returns-clause-before c = label_position_by_order-before

pub returns-clause-behind : goal.returns-clause-behind
returns-clause-behind c = label_position_by_order-behind

pub returns-clause-place : goal.returns-clause-place
returns-clause-place c = label_position_by_order-place
