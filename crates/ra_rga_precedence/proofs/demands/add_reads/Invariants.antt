use Rattle.std.proofs.Common.{◌≡◌, ◌<◌, ◌≤◌, ℕ, length, get_or}
use Rattle.ra_labels.specs.HistorySoFar.{History}
use Rattle.ra_visibility.specs.Tracked.{labels_in, replicas_in}
use Rattle.ra_rga_precedence.specs.declared.view.View.{View}
use Rattle.ra_rga_precedence.specs.Situation.{operations_in, IsHistoryOf}
use Rattle.ra_rga_precedence.specs.UpdateConditions.{NameBelow}
use Rattle.ra_rga_precedence.specs.Views.{IsView}
use Rattle.ra_rga_precedence.specs.Answers.{AreReadConditions}
use Rattle.ra_rga_precedence.proofs.demands.add_reads.Given as goal

abbrev pub invariant-loop-label : goal.invariant-loop-label
invariant-loop-label l = record {
  wide : length l.views.items ≡ replicas_in l.tracker.now;
  views : (i : ℕ) (none : View) → i < length l.views.items
      → IsView l.tracker.now (operations_in l.operations) l.insertions.needed.items (get_or l.views.items i none);
  named : NameBelow (labels_in l.tracker.now) l.fn.conditions.items
      → NameBelow (labels_in l.tracker.now) l.conditions.items;
  are : (past : History) → IsHistoryOf l.tracker.now (operations_in l.operations) past
      → AreReadConditions past.records l.label l.fn.conditions.items l.conditions.items;
  within : l.label ≤ labels_in l.tracker.now;
}
