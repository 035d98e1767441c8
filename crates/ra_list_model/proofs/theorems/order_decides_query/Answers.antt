use Rattle.ra_list_model.proofs.AnsweredQueries.{query_decided}
use Rattle.ra_list_model.proofs.theorems.order_decides_query.Goals as goal

pub returns : goal.returns
returns c = query_decided
