use Rattle.ra_list_model.proofs.AnsweredQueries.{one_read}
use Rattle.ra_list_model.proofs.theorems.one_read_of_each_state.Goals as goal

pub returns : goal.returns
returns c = one_read
