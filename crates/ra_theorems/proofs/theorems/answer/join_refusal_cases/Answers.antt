use Rattle.ra_theorems.proofs.TheoremIndex.{join_refusal_cases-unknown, join_refusal_cases-there}
use Rattle.ra_theorems.proofs.TheoremIndex.{join_refusal_cases-full}
use Rattle.ra_theorems.proofs.theorems.answer.join_refusal_cases.Goals as goal

pub returns-clause-unknown : goal.returns-clause-unknown
returns-clause-unknown c = join_refusal_cases-unknown

pub returns-clause-there : goal.returns-clause-there
returns-clause-there c = join_refusal_cases-there

pub returns-clause-full : goal.returns-clause-full
returns-clause-full c = join_refusal_cases-full
