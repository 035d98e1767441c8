use Rattle.ra_mvregister_model.proofs.UnseenLabels.{siblings_exactly, replaced_exactly, siblings_rise}
use Rattle.ra_mvregister_model.proofs.theorems.siblings_iff_unseen.Goals as goal

pub returns-clause-siblings : goal.returns-clause-siblings
returns-clause-siblings c = siblings_exactly

pub returns-clause-replaced : goal.returns-clause-replaced
returns-clause-replaced c = replaced_exactly

pub returns-clause-rising : goal.returns-clause-rising
returns-clause-rising c = siblings_rise
