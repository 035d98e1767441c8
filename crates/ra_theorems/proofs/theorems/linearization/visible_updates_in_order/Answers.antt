use Rattle.ra_theorems.proofs.TheoremIndex.{visible_updates_in_order-all, visible_updates_in_order-visible}
use Rattle.ra_theorems.proofs.theorems.linearization.visible_updates_in_order.Goals as goal

pub returns-clause-all : goal.returns-clause-all
returns-clause-all c = visible_updates_in_order-all

pub returns-clause-visible : goal.returns-clause-visible
returns-clause-visible c = visible_updates_in_order-visible
