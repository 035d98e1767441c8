use Rattle.ra_any_reads.proofs.Entries.{first-same}
use Rattle.ra_any_reads.proofs.theorems.first_read_by_counts.Goals as goal

pub returns : goal.returns
returns c = first-same
