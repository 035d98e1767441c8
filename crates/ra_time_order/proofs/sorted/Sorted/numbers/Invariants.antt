use Rattle.std.proofs.Common.{◌≡◌, ◌++◌, drop}
use Rattle.std.specs.Prelude.{map}
use Rattle.ra_time_order.specs.Sorted.{joined}
use Rattle.ra_time_order.proofs.sorted.Sorted.numbers.Given as goal

-- the labels of the runs so far, and those of the others, are all labels
abbrev pub invariant-loop-run : goal.invariant-loop-run
invariant-loop-run l = l.numbers.items ++ map (λ entry. entry.label) (joined (drop l.run-index l.run-items))
    ≡ map (λ entry. entry.label) l.self.entries
