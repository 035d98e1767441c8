use Rattle.std.proofs.Common.{◌≡◌, ◌++◌, take, filter, is_some}
use Rattle.std.specs.Prelude.{not}
use Rattle.std.specs.BTreeMap.{get}
use Rattle.std.specs.Ordering.{nat_cmp}
use Rattle.ra_list_order.proofs.cut.push_others.Given as goal

abbrev pub invariant-loop-element : goal.invariant-loop-element
invariant-loop-element l = l.all.items
    ≡ l.fn.all.items ++ filter (λ x. not (is_some (get nat_cmp l.index x))) (take l.element-index l.elements)
