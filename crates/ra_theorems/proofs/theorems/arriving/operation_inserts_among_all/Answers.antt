use Rattle.ra_theorems.proofs.TheoremIndex.{operation_inserts_among_all-update, operation_inserts_among_all-query}
use Rattle.ra_theorems.proofs.theorems.arriving.operation_inserts_among_all.Goals as goal

pub returns-clause-update : goal.returns-clause-update
returns-clause-update c = operation_inserts_among_all-update

pub returns-clause-query : goal.returns-clause-query
returns-clause-query c = operation_inserts_among_all-query
