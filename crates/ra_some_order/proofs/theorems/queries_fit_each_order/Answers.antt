use Rattle.ra_some_order.proofs.SequencedQueries.{sequenced}
use Rattle.ra_some_order.proofs.theorems.queries_fit_each_order.Goals as goal

pub returns : goal.returns
returns c = sequenced
