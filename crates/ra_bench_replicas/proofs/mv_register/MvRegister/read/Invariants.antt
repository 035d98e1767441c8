use Rattle.std.proofs.Common.{◌≡◌, true}
use Rattle.ra_labels.specs.Lists.{rises}
use Rattle.ra_bench_replicas.proofs.mv_register.MvRegister.read.Given as goal

abbrev pub invariant-loop-value : goal.invariant-loop-value
invariant-loop-value l = (goal.iterator-loop-value).can_next l.value-iterator
    × (goal.iterator-loop-value).is_finite l.value-iterator
    × (rises l.list.items ≡ true)
