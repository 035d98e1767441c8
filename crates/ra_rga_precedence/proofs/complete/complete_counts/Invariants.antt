use Rattle.std.proofs.Common.{◌≤◌}
use Rattle.ra_rga_precedence.specs.Situation.{operations_in}
use Rattle.ra_rga_precedence.specs.Complete.{AreCompleteCounts}
use Rattle.ra_rga_precedence.proofs.CompleteCounts.{IsLast}
use Rattle.ra_rga_precedence.proofs.complete.complete_counts.Given as goal

abbrev pub invariant-loop-label : goal.invariant-loop-label
invariant-loop-label l = record {
  counts : AreCompleteCounts (operations_in l.operations) l.label l.counts.items;
  last : IsLast (operations_in l.operations) l.count l.label l.last;
  within : l.label ≤ l.count;
}
