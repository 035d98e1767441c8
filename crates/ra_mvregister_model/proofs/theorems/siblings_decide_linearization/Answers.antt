use Rattle.ra_mvregister_model.proofs.ReadValues.{decided, some_decided}
use Rattle.ra_mvregister_model.proofs.theorems.siblings_decide_linearization.Goals as goal

pub returns-clause-any : goal.returns-clause-any
returns-clause-any c = decided

pub returns-clause-some : goal.returns-clause-some
returns-clause-some c = some_decided
