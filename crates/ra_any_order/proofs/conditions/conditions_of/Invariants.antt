use Rattle.std.proofs.Common.{◌≡◌, ◌<◌, ◌≤◌, ℕ, length, get_or}
use Rattle.ra_labels.specs.HistorySoFar.{History}
use Rattle.ra_visibility.specs.Tracked.{labels_in, replicas_in}
use Rattle.ra_any_order.specs.declared.views.View.{View}
use Rattle.ra_any_order.specs.Changes.{IsViewBelow, IsViewOf}
use Rattle.ra_any_order.specs.Situation.{operations_in, IsHistoryOf}
use Rattle.ra_any_order.specs.Requirements.{AreConditionsBelow, NameBelow}
use Rattle.ra_any_order.proofs.conditions.conditions_of.Given as goal

abbrev pub invariant-loop-label : goal.invariant-loop-label
invariant-loop-label l = record {
  wide : length l.views.items ≡ replicas_in l.tracker.now;
  low : (i : ℕ) (none : View) → i < length l.views.items → IsViewBelow (labels_in l.tracker.now) (get_or l.views.items i none);
  views : (past : History) → IsHistoryOf l.tracker.now (operations_in l.operations) past
      → (i : ℕ) (none : View) → i < length l.views.items
      → IsViewOf past.records (operations_in l.operations) i l.label (get_or l.views.items i none);
  named : NameBelow (labels_in l.tracker.now) l.conditions.items;
  are : (past : History) → IsHistoryOf l.tracker.now (operations_in l.operations) past
      → AreConditionsBelow past.records l.label l.conditions.items;
  within : l.label ≤ labels_in l.tracker.now;
}
