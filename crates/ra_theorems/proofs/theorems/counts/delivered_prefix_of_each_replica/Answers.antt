use Rattle.ra_theorems.proofs.TheoremIndex.{delivered_prefix_of_each_replica-delivered, delivered_prefix_of_each_replica-sees}
use Rattle.ra_theorems.proofs.theorems.counts.delivered_prefix_of_each_replica.Goals as goal

pub returns-clause-delivered : goal.returns-clause-delivered
returns-clause-delivered c = delivered_prefix_of_each_replica-delivered

pub returns-clause-sees : goal.returns-clause-sees
returns-clause-sees c = delivered_prefix_of_each_replica-sees
