use Rattle.std.proofs.Common.{◌≡◌}
use Rattle.ra_visibility.specs.Seen.{count_in}
use Rattle.ra_time_order.specs.Stamps.{greatest_in}
use Rattle.ra_time_order.proofs.running_maxima.RunningMaxima.greatest.Given as goal

-- the greatest stamp of the replicas so far
abbrev pub invariant-loop-replica : goal.invariant-loop-replica
invariant-loop-replica l = l.greatest ≡ greatest_in l.self.stamps (count_in l.seen) l.replica
