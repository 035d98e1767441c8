use Rattle.ra_theorems.proofs.TheoremIndex.{join_copies_delivered-labels}
use Rattle.ra_theorems.proofs.TheoremIndex.{join_copies_delivered-issued}
use Rattle.ra_theorems.proofs.TheoremIndex.{join_copies_delivered-own}
use Rattle.ra_theorems.proofs.TheoremIndex.{join_copies_delivered-others}
use Rattle.ra_theorems.proofs.TheoremIndex.{join_copies_delivered-order}
use Rattle.ra_theorems.proofs.theorems.joins.join_copies_delivered.Goals as goal

pub returns-clause-labels : goal.returns-clause-labels
returns-clause-labels c = join_copies_delivered-labels

pub returns-clause-issued : goal.returns-clause-issued
returns-clause-issued c = join_copies_delivered-issued

pub returns-clause-own : goal.returns-clause-own
returns-clause-own c = join_copies_delivered-own

pub returns-clause-others : goal.returns-clause-others
returns-clause-others c = join_copies_delivered-others

pub returns-clause-order : goal.returns-clause-order
returns-clause-order c = join_copies_delivered-order
