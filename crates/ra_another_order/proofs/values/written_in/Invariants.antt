use Rattle.std.proofs.Common.{ℕ, ◌↔◌, Some, Contains, IsTrue, take}
use Rattle.std.specs.BTreeSet.{contains}
use Rattle.std.specs.Ordering.{nat_cmp}
use Rattle.ra_another_order.proofs.values.written_in.Given as goal

-- the set has the written ones of the values so far
abbrev pub invariant-loop-value : goal.invariant-loop-value
invariant-loop-value l = (x : ℕ) → IsTrue (contains nat_cmp l.set x) ↔ Contains (take l.value-index l.values) (Some x)
