use Rattle.std.proofs.Common.{None, Contains, take}
use Rattle.ra_another_order.proofs.values.has_none.Given as goal

-- none is not among the values so far
abbrev pub invariant-loop-value : goal.invariant-loop-value
invariant-loop-value l = ¬ Contains (take l.value-index l.values) None
