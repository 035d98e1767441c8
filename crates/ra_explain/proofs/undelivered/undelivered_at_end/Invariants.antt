use Rattle.std.proofs.Common.{◌≡◌}
use Rattle.std.specs.Prelude.{map}
use Rattle.std.specs.List.{range_with_len}
use Rattle.ra_explain.specs.Undelivered.{undelivered_at}
use Rattle.ra_explain.proofs.undelivered.undelivered_at_end.Given as goal

-- the list has what was not delivered to the replicas so far
abbrev pub invariant-loop-replica : goal.invariant-loop-replica
invariant-loop-replica l = l.all.items ≡ map (undelivered_at l.monitor.setup l.monitor.log) (range_with_len 0 l.replica)
