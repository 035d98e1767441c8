use Rattle.ra_any_model.proofs.ExplainedReads.{agreeing_explained}
use Rattle.ra_any_model.proofs.theorems.agreeing_reads_are_explained.Goals as goal

pub returns : goal.returns
returns c = agreeing_explained
