use Rattle.std.proofs.Common.{◌-◌, ◌≤◌}
use Rattle.std.specs.Ordering.{nat_cmp}
use Rattle.std.specs.BTreeMap.{get}
use Rattle.ra_rga_precedence.specs.Situation.{operations_in}
use Rattle.ra_rga_precedence.specs.Complete.{AreFirstInserters}
use Rattle.ra_rga_precedence.proofs.complete.first_inserters.Given as goal

abbrev pub invariant-loop-behind : goal.invariant-loop-behind
invariant-loop-behind l = record {
  are : AreFirstInserters (operations_in l.operations) (l.count - l.behind) l.count (get nat_cmp l.inserters);
  within : l.behind ≤ l.count;
}
