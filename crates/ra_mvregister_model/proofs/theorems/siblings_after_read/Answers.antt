use Rattle.ra_mvregister_model.proofs.ChangedSiblings.{after_read}
use Rattle.ra_mvregister_model.proofs.theorems.siblings_after_read.Goals as goal

pub returns : goal.returns
returns c = after_read
