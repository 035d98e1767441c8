use Rattle.ra_theorems.proofs.TheoremIndex.{updates_passing_insert-place, updates_passing_insert-at}
use Rattle.ra_theorems.proofs.TheoremIndex.{updates_passing_insert-count, updates_passing_insert-there}
use Rattle.ra_theorems.proofs.theorems.passing.updates_passing_insert.Goals as goal

pub returns-clause-place : goal.returns-clause-place
returns-clause-place c = updates_passing_insert-place

pub returns-clause-at : goal.returns-clause-at
returns-clause-at c = updates_passing_insert-at

pub returns-clause-count : goal.returns-clause-count
returns-clause-count c = updates_passing_insert-count

pub returns-clause-there : goal.returns-clause-there
returns-clause-there c = updates_passing_insert-there
