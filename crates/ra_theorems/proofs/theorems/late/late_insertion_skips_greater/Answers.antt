use Rattle.ra_theorems.proofs.TheoremIndex.{late_insertion_skips_greater}
use Rattle.ra_theorems.proofs.theorems.late.late_insertion_skips_greater.Goals as goal

pub returns : goal.returns
returns c = late_insertion_skips_greater
