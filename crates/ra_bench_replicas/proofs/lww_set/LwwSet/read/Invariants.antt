use Rattle.std.proofs.Common.{◌≡◌, true}
use Rattle.ra_labels.specs.Lists.{rises}
use Rattle.ra_bench_replicas.proofs.lww_set.LwwSet.read.Given as goal

abbrev pub invariant-loop-element : goal.invariant-loop-element
invariant-loop-element l = (goal.iterator-loop-element).can_next l.element-iterator
    × (goal.iterator-loop-element).is_finite l.element-iterator
    × (rises l.elements.items ≡ true)
