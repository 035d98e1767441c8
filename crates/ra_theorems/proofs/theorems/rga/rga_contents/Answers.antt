use Rattle.ra_theorems.proofs.TheoremIndex.{rga_contents-elements, rga_contents-shown}
use Rattle.ra_theorems.proofs.TheoremIndex.{rga_contents-root, rga_contents-once}
use Rattle.ra_theorems.proofs.TheoremIndex.{rga_contents-stays}
use Rattle.ra_theorems.proofs.theorems.rga.rga_contents.Goals as goal

pub returns-clause-elements : goal.returns-clause-elements
returns-clause-elements c = rga_contents-elements

pub returns-clause-shown : goal.returns-clause-shown
returns-clause-shown c = rga_contents-shown

pub returns-clause-root : goal.returns-clause-root
returns-clause-root c = rga_contents-root

pub returns-clause-once : goal.returns-clause-once
returns-clause-once c = rga_contents-once

pub returns-clause-stays : goal.returns-clause-stays
returns-clause-stays c = rga_contents-stays
