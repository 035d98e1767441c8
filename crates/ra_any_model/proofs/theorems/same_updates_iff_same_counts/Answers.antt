use Rattle.ra_any_model.proofs.SameCounts.{same_counts-labels, same_counts-replica, same_counts-replicas}
use Rattle.ra_any_model.proofs.theorems.same_updates_iff_same_counts.Goals as goal

pub returns-clause-labels : goal.returns-clause-labels
returns-clause-labels c = same_counts-labels

pub returns-clause-label_and_replica : goal.returns-clause-label_and_replica
returns-clause-label_and_replica c = same_counts-replica

pub returns-clause-replicas : goal.returns-clause-replicas
returns-clause-replicas c = same_counts-replicas
