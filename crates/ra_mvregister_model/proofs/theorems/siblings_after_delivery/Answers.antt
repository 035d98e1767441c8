use Rattle.ra_mvregister_model.proofs.ChangedSiblings.{after_delivery-receiver, after_delivery-others}
use Rattle.ra_mvregister_model.proofs.theorems.siblings_after_delivery.Goals as goal

pub returns-clause-receiver : goal.returns-clause-receiver
returns-clause-receiver c = λ records to n m causal update delivery. after_delivery-receiver records to n causal update delivery m

pub returns-clause-others : goal.returns-clause-others
returns-clause-others c = after_delivery-others
