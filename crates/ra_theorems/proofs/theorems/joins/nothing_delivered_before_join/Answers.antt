use Rattle.ra_theorems.proofs.TheoremIndex.{nothing_delivered_before_join-operation}
use Rattle.ra_theorems.proofs.TheoremIndex.{nothing_delivered_before_join-delivery}
use Rattle.ra_theorems.proofs.TheoremIndex.{nothing_delivered_before_join-join}
use Rattle.ra_theorems.proofs.TheoremIndex.{nothing_delivered_before_join-one}
use Rattle.ra_theorems.proofs.TheoremIndex.{nothing_delivered_before_join-all}
use Rattle.ra_theorems.proofs.theorems.joins.nothing_delivered_before_join.Goals as goal

pub returns-clause-operation : goal.returns-clause-operation
returns-clause-operation c = nothing_delivered_before_join-operation

pub returns-clause-delivery : goal.returns-clause-delivery
returns-clause-delivery c = nothing_delivered_before_join-delivery

pub returns-clause-join : goal.returns-clause-join
returns-clause-join c = nothing_delivered_before_join-join

pub returns-clause-one : goal.returns-clause-one
returns-clause-one c = nothing_delivered_before_join-one

pub returns-clause-all : goal.returns-clause-all
returns-clause-all c = nothing_delivered_before_join-all
