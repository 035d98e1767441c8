use Rattle.std.proofs.Common.{◌≡◌, true}
use Rattle.ra_labels.specs.Lists.{rises}
use Rattle.ra_bench_replicas.proofs.or_set.OrSet.identifiers.Given as goal

abbrev pub invariant-loop-pair : goal.invariant-loop-pair
invariant-loop-pair l = (goal.iterator-loop-pair).can_next l.pair-iterator
    × (goal.iterator-loop-pair).is_finite l.pair-iterator
    × (rises l.ids.items ≡ true)
