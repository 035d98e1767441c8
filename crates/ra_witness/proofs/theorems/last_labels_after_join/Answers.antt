use Rattle.std.proofs.Common.{arith}
use Rattle.ra_witness.proofs.Joins.{lasts_joined}
use Rattle.ra_witness.proofs.theorems.last_labels_after_join.Goals as goal

pub returns : goal.returns
returns c = λ writes lasts past from last counted joins.
    lasts_joined writes lasts past.initial_replicas past.records from last counted (omega (arith, counted, joins.there)) joins.beyond
