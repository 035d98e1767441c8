use Rattle.std.proofs.Common.{◌≡◌, ◌++◌, List, take}
use Rattle.std.specs.BTreeSet.{contains}
use Rattle.std.specs.Ordering.{nat_cmp}
use Rattle.ra_precedence.specs.Conditions.{Condition}
use Rattle.ra_any_order.specs.Elements.{AreElementsAdded}
use Rattle.ra_any_order.specs.Situation.{operations_in}
use Rattle.ra_any_order.proofs.reads.add_each.Given as goal

abbrev pub invariant-loop-element : goal.invariant-loop-element
invariant-loop-element l = (added : List Condition) × (l.conditions.items ≡ l.fn.conditions.items ++ added)
    × AreElementsAdded (operations_in l.operations) l.newest l.replicas (contains nat_cmp l.listed)
    (take l.element-index l.elements) added
