use Rattle.ra_theorems.proofs.TheoremIndex.{removal_of_present_element-admitted}
use Rattle.ra_theorems.proofs.TheoremIndex.{removal_of_present_element-places}
use Rattle.ra_theorems.proofs.TheoremIndex.{removal_of_present_element-shown}
use Rattle.ra_theorems.proofs.theorems.rga.removal_of_present_element.Goals as goal

pub returns-clause-admitted : goal.returns-clause-admitted
returns-clause-admitted c = removal_of_present_element-admitted

pub returns-clause-places : goal.returns-clause-places
returns-clause-places c = removal_of_present_element-places

pub returns-clause-shown : goal.returns-clause-shown
returns-clause-shown c = removal_of_present_element-shown
