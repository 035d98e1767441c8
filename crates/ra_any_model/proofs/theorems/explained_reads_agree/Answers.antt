use Rattle.ra_any_model.specs.contracts.theorems.explained_reads_agree.{State-type}
use Rattle.ra_any_model.proofs.ExplainedReads.{explained_agree, answered_agree}
use Rattle.ra_any_model.proofs.theorems.explained_reads_agree.Goals as goal

pub returns-clause-explained : goal.returns-clause-explained
returns-clause-explained g c = explained_agree (State-type g.row.State)

pub returns-clause-answered : goal.returns-clause-answered
returns-clause-answered g c = answered_agree (State-type g.row.State)
