use Rattle.ra_mvregister_model.proofs.ReadValues.{final}
use Rattle.ra_mvregister_model.proofs.theorems.violation_is_final.Goals as goal

pub returns : goal.returns
returns c = final
