use Rattle.std.proofs.Common.{◌≡◌, true}
use Rattle.ra_labels.specs.Lists.{rises}
use Rattle.ra_bench_replicas.proofs.or_set.OrSet.read.Given as goal

abbrev pub invariant-loop-step : goal.invariant-loop-step
invariant-loop-step l = rises l.elements.items ≡ true
