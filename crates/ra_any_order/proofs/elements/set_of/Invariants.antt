use Rattle.std.proofs.Common.{◌≡◌, ℕ, take}
use Rattle.std.specs.BTreeSet.{contains}
use Rattle.std.specs.Ordering.{nat_cmp}
use Rattle.ra_labels.specs.Lists.{is_among}
use Rattle.ra_any_order.proofs.elements.set_of.Given as goal

abbrev pub invariant-loop-element : goal.invariant-loop-element
invariant-loop-element l = (x : ℕ) → contains nat_cmp l.set x ≡ is_among x (take l.element-index l.elements)
