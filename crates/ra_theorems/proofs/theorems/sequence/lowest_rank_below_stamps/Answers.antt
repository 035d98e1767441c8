use Rattle.ra_theorems.proofs.TheoremIndex.{lowest_rank_below_stamps}
use Rattle.ra_theorems.proofs.theorems.sequence.lowest_rank_below_stamps.Goals as goal

pub returns : goal.returns
returns c = lowest_rank_below_stamps
