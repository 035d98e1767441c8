use Rattle.std.proofs.Common.{◌≡◌, [], map, replicate}
use Rattle.ra_monitor.proofs.used_keys.UsedKeys.new.Given as goal

-- the replicas so far have no clock
abbrev pub invariant-loop : goal.invariant-loop
invariant-loop l = map (λ clocks. clocks.clocks) l.clocks.items ≡ replicate l.counter []
