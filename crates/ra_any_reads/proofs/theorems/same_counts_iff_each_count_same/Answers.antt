use Rattle.ra_any_reads.proofs.EqualCounts.{same_exactly}
use Rattle.ra_any_reads.proofs.theorems.same_counts_iff_each_count_same.Goals as goal

pub returns : goal.returns
returns c = same_exactly
