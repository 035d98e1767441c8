use Rattle.std.proofs.Common.{◌≤◌}
use Rattle.ra_labels.specs.HistorySoFar.{History}
use Rattle.ra_visibility.specs.Tracked.{labels_in}
use Rattle.ra_rga_precedence.specs.Situation.{operations_in, IsHistoryOf}
use Rattle.ra_rga_precedence.specs.UpdateConditions.{HoldNeeds, AreUpdateConditions, NameBelow}
use Rattle.ra_rga_precedence.proofs.update_conditions.update_conditions.Given as goal

abbrev pub invariant-loop-label : goal.invariant-loop-label
invariant-loop-label l = record {
  named : NameBelow (labels_in l.tracker.now) l.conditions.items;
  needs : HoldNeeds (operations_in l.operations) l.needed l.label l.conditions.items;
  are : (past : History) → IsHistoryOf l.tracker.now (operations_in l.operations) past
      → AreUpdateConditions past.records l.needed l.label l.conditions.items;
  within : l.label ≤ labels_in l.tracker.now;
}
