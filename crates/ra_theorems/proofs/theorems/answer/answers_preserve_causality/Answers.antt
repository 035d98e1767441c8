use Rattle.ra_theorems.proofs.TheoremIndex.{answers_preserve_causality-one, answers_preserve_causality-all}
use Rattle.ra_theorems.proofs.theorems.answer.answers_preserve_causality.Goals as goal

pub returns-clause-one : goal.returns-clause-one
returns-clause-one c = answers_preserve_causality-one

pub returns-clause-all : goal.returns-clause-all
returns-clause-all c = answers_preserve_causality-all
