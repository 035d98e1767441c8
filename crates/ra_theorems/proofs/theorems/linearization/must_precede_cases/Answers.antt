use Rattle.ra_theorems.proofs.TheoremIndex.{must_precede_cases-visible, must_precede_cases-earlier}
use Rattle.ra_theorems.proofs.TheoremIndex.{must_precede_cases-halves, must_precede_cases-cases}
use Rattle.ra_theorems.proofs.theorems.linearization.must_precede_cases.Goals as goal

pub returns-clause-visible : goal.returns-clause-visible
returns-clause-visible c = must_precede_cases-visible

pub returns-clause-earlier : goal.returns-clause-earlier
returns-clause-earlier c = must_precede_cases-earlier

pub returns-clause-halves : goal.returns-clause-halves
returns-clause-halves c = must_precede_cases-halves

pub returns-clause-cases : goal.returns-clause-cases
returns-clause-cases c = must_precede_cases-cases
