use Rattle.std.proofs.Common.{◌≤◌}
use Rattle.std.specs.Ordering.{nat_cmp}
use Rattle.std.specs.BTreeMap.{get}
use Rattle.ra_rga_precedence.specs.Situation.{operations_in}
use Rattle.ra_rga_precedence.specs.Inserting.{AreInserters}
use Rattle.ra_rga_precedence.proofs.inserters.inserters_of.Given as goal

abbrev pub invariant-loop-label : goal.invariant-loop-label
invariant-loop-label l = record {
  are : AreInserters (operations_in l.operations) l.label (get nat_cmp l.inserters);
  within : l.label ≤ l.count;
}
