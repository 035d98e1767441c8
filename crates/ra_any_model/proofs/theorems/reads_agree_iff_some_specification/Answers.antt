use Rattle.ra_any_model.proofs.ExplainedReads.{agree_iff_some}
use Rattle.ra_any_model.proofs.theorems.reads_agree_iff_some_specification.Goals as goal

pub returns : goal.returns
returns c = agree_iff_some
