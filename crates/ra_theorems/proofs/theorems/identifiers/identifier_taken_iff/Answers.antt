use Rattle.ra_theorems.proofs.TheoremIndex.{identifier_taken_iff-taken, identifier_taken_iff-gives}
use Rattle.ra_theorems.proofs.theorems.identifiers.identifier_taken_iff.Goals as goal

pub returns-clause-taken : goal.returns-clause-taken
returns-clause-taken c = identifier_taken_iff-taken

pub returns-clause-gives : goal.returns-clause-gives
returns-clause-gives c = identifier_taken_iff-gives
