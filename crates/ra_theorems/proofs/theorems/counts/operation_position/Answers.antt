use Rattle.ra_theorems.proofs.TheoremIndex.{operation_position-issuer, operation_position-place, operation_position-count}
use Rattle.ra_theorems.proofs.theorems.counts.operation_position.Goals as goal

pub returns-clause-issuer : goal.returns-clause-issuer
returns-clause-issuer c = operation_position-issuer

pub returns-clause-place : goal.returns-clause-place
returns-clause-place c = operation_position-place

pub returns-clause-count : goal.returns-clause-count
returns-clause-count c = operation_position-count
