use Rattle.std.proofs.Common.{take}
use Rattle.std.specs.BTreeMap.{get}
use Rattle.std.specs.Ordering.{nat_cmp}
use Rattle.ra_labels.specs.Edges.{EachOnce}
use Rattle.ra_list_order.specs.Gathering.{IsIndex}
use Rattle.ra_list_order.proofs.cut.index_of.Given as goal

abbrev pub invariant-loop-i : goal.invariant-loop-i
invariant-loop-i l = record {
  index : IsIndex (get nat_cmp l.index) (take l.i l.elements);
  once : EachOnce (take l.i l.elements);
}
