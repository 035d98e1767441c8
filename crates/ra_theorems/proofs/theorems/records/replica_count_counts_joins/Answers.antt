use Rattle.ra_theorems.proofs.TheoremIndex.{replica_count_counts_joins}
use Rattle.ra_theorems.proofs.theorems.records.replica_count_counts_joins.Goals as goal

pub returns : goal.returns
returns c = replica_count_counts_joins
