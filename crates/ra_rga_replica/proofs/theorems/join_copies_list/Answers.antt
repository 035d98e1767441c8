use Rattle.ra_rga_replica.proofs.LaterRecords.{join-copied}
use Rattle.ra_rga_replica.proofs.theorems.join_copies_list.Goals as goal

pub returns : goal.returns
returns c = join-copied
