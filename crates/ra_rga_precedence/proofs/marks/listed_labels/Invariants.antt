use Rattle.std.proofs.Common.{◌≡◌, length}
use Rattle.std.specs.Ordering.{nat_cmp}
use Rattle.std.specs.BTreeMap.{get}
use Rattle.ra_rga_precedence.specs.Marks.{AreShown}
use Rattle.ra_rga_precedence.proofs.marks.listed_labels.Given as goal

abbrev pub invariant-loop-element : goal.invariant-loop-element
invariant-loop-element l = record {
  len : length l.labels.items ≡ l.element-index;
  wide : length l.marks.items ≡ length l.fn.marks.items;
  are : AreShown (get nat_cmp l.inserters) l.seen l.fn.marks.items l.list l.labels.items l.marks.items;
}
