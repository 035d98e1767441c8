use Rattle.std.proofs.Common.{◌≡◌, ◌++◌}
use Rattle.ra_another_order.proofs.values.listed.Given as goal

abbrev pub invariant-loop-value : goal.invariant-loop-value
invariant-loop-value l = record { list : l.list.items ++ l.value-iterator ≡ l.set.keys }
