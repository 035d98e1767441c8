use Rattle.ra_theorems.proofs.TheoremIndex.{stamps_unique-one, stamps_unique-all}
use Rattle.ra_theorems.proofs.theorems.timestamps.stamps_unique.Goals as goal

pub returns-clause-one : goal.returns-clause-one
returns-clause-one c = stamps_unique-one

pub returns-clause-all : goal.returns-clause-all
returns-clause-all c = stamps_unique-all
