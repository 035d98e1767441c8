use Rattle.std.proofs.Common.{◌≡◌, ◌++◌, map}
use Rattle.ra_time_order.proofs.label_ranks.numbers_of.Given as goal

abbrev pub invariant-loop-entry : goal.invariant-loop-entry
invariant-loop-entry l =
    l.numbers.items ++ map (λ entry. entry.label) l.entry-iterator ≡ map (λ entry. entry.label) l.sorted.keys
