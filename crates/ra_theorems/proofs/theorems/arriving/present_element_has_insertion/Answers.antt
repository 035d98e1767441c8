use Rattle.ra_theorems.proofs.TheoremIndex.{present_element_has_insertion-all, present_element_has_insertion-passing}
use Rattle.ra_theorems.proofs.theorems.arriving.present_element_has_insertion.Goals as goal

pub returns-clause-all : goal.returns-clause-all
returns-clause-all c = present_element_has_insertion-all

pub returns-clause-passing : goal.returns-clause-passing
returns-clause-passing c = present_element_has_insertion-passing
