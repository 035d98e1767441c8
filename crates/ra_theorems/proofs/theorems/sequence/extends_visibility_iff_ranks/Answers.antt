use Rattle.ra_theorems.proofs.TheoremIndex.{extends_visibility_iff_ranks}
use Rattle.ra_theorems.proofs.theorems.sequence.extends_visibility_iff_ranks.Goals as goal

pub returns : goal.returns
returns c = extends_visibility_iff_ranks
