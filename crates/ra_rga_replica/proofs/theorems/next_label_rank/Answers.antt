use Rattle.ra_rga_replica.proofs.Ranks.{greatest-ranks}
use Rattle.ra_rga_replica.proofs.theorems.next_label_rank.Goals as goal

pub returns : goal.returns
returns c = greatest-ranks
