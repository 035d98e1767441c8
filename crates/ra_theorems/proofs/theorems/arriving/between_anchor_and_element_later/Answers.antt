use Rattle.ra_theorems.proofs.TheoremIndex.{between_anchor_and_element_later}
use Rattle.ra_theorems.proofs.theorems.arriving.between_anchor_and_element_later.Goals as goal

pub returns : goal.returns
returns c = between_anchor_and_element_later
