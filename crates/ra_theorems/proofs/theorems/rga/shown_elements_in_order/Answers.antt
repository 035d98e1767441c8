use Rattle.ra_theorems.proofs.TheoremIndex.{shown_elements_in_order-all, shown_elements_in_order-one, shown_elements_in_order-hidden}
use Rattle.ra_theorems.proofs.theorems.rga.shown_elements_in_order.Goals as goal

pub returns-clause-all : goal.returns-clause-all
returns-clause-all c = shown_elements_in_order-all

pub returns-clause-one : goal.returns-clause-one
returns-clause-one c = shown_elements_in_order-one

pub returns-clause-hidden : goal.returns-clause-hidden
returns-clause-hidden c = shown_elements_in_order-hidden
