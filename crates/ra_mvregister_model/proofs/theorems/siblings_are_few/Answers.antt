use Rattle.ra_mvregister_model.proofs.FewSiblings.{one_of_each, few_siblings}
use Rattle.ra_mvregister_model.proofs.theorems.siblings_are_few.Goals as goal

pub returns-clause-one : goal.returns-clause-one
returns-clause-one c = one_of_each

pub returns-clause-few : goal.returns-clause-few
returns-clause-few c = few_siblings
