use Rattle.std.proofs.Common.{◌≡◌}
use Rattle.std.specs.Prelude.{replicate}
use Rattle.ra_visibility.specs.Replica.{new_replica}
use Rattle.ra_visibility.proofs.tracked.new_replicas.Given as goal

-- all members so far are new replicas
abbrev pub invariant-loop : goal.invariant-loop
invariant-loop l = l.members.items ≡ replicate l.counter (new_replica l.places)
