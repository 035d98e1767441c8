use Rattle.ra_theorems.proofs.TheoremIndex.{newest_element_after_anchor}
use Rattle.ra_theorems.proofs.theorems.late.newest_element_after_anchor.Goals as goal

pub returns : goal.returns
returns c = newest_element_after_anchor
