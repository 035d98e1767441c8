use Rattle.ra_mvregister_model.proofs.ChangedSiblings.{after_join-joined, after_join-others}
use Rattle.ra_mvregister_model.proofs.theorems.siblings_after_join.Goals as goal

pub returns-clause-joined : goal.returns-clause-joined
returns-clause-joined c = after_join-joined

pub returns-clause-others : goal.returns-clause-others
returns-clause-others c = after_join-others
