use Rattle.ra_any_model.proofs.AgreeingReads.{agree_alike}
use Rattle.ra_any_model.proofs.theorems.visibility_decides_agreement.Goals as goal

pub returns : goal.returns
returns c = agree_alike
