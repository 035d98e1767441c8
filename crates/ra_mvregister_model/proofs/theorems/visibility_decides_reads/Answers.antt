use Rattle.ra_mvregister_model.proofs.ReadValues.{reads_alike}
use Rattle.ra_mvregister_model.proofs.theorems.visibility_decides_reads.Goals as goal

pub returns : goal.returns
returns c = reads_alike
