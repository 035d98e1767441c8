use Rattle.ra_mvregister_model.proofs.UnseenLabels.{replaced-new, replaced-others}
use Rattle.ra_mvregister_model.proofs.theorems.replaced_when_issued.Goals as goal

pub returns-clause-new : goal.returns-clause-new
returns-clause-new c = replaced-new

pub returns-clause-others : goal.returns-clause-others
returns-clause-others c = replaced-others
