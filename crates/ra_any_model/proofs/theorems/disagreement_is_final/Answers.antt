use Rattle.ra_any_model.specs.contracts.theorems.disagreement_is_final.{State-type}
use Rattle.ra_any_model.proofs.ExplainedReads.{none_explains, later_apart}
use Rattle.ra_any_model.proofs.theorems.disagreement_is_final.Goals as goal

pub returns-clause-none : goal.returns-clause-none
returns-clause-none g c = none_explains (State-type g.row.State)

pub returns-clause-later : goal.returns-clause-later
returns-clause-later g c = later_apart
