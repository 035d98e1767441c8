use Rattle.ra_theorems.proofs.TheoremIndex.{malformed_commands_refused-operation}
use Rattle.ra_theorems.proofs.TheoremIndex.{malformed_commands_refused-delivery}
use Rattle.ra_theorems.proofs.TheoremIndex.{malformed_commands_refused-join}
use Rattle.ra_theorems.proofs.TheoremIndex.{malformed_commands_refused-verdict}
use Rattle.ra_theorems.proofs.theorems.answer.malformed_commands_refused.Goals as goal

pub returns-clause-operation : goal.returns-clause-operation
returns-clause-operation c = malformed_commands_refused-operation

pub returns-clause-delivery : goal.returns-clause-delivery
returns-clause-delivery c = malformed_commands_refused-delivery

pub returns-clause-join : goal.returns-clause-join
returns-clause-join c = malformed_commands_refused-join

pub returns-clause-verdict : goal.returns-clause-verdict
returns-clause-verdict c = malformed_commands_refused-verdict
