use Rattle.ra_mvregister_model.proofs.ChangedSiblings.{after_write-own, after_write-others}
use Rattle.ra_mvregister_model.proofs.theorems.siblings_after_write.Goals as goal

pub returns-clause-own : goal.returns-clause-own
returns-clause-own c = after_write-own

pub returns-clause-others : goal.returns-clause-others
returns-clause-others c = after_write-others
