use Rattle.std.proofs.Common.{◌≡◌, ◌≤◌, length}
use Rattle.std.specs.Ordering.{nat_cmp}
use Rattle.std.specs.BTreeMap.{get}
use Rattle.ra_rga_precedence.specs.Situation.{operations_in}
use Rattle.ra_rga_precedence.specs.Needing.{AreNeeded}
use Rattle.ra_rga_precedence.proofs.needs.needed_labels.Given as goal

abbrev pub invariant-loop-label : goal.invariant-loop-label
invariant-loop-label l = record {
  len : length l.labels.items ≡ l.label;
  are : AreNeeded (operations_in l.operations) (get nat_cmp l.inserters) l.labels.items;
  within : l.label ≤ l.count;
}
