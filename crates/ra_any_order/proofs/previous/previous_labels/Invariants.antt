use Rattle.std.proofs.Common.{◌≡◌, ◌≤◌, ◌<◌, ℕ, None, length, get_or}
use Rattle.std.specs.Prelude.{IfSome}
use Rattle.ra_labels.specs.HistorySoFar.{History}
use Rattle.ra_visibility.specs.Tracked.{labels_in, replicas_in, IsVisibilityOf}
use Rattle.ra_any_order.specs.Previous.{AreBelow}
use Rattle.ra_any_order.proofs.LastLabels.{AreLastBelow}
use Rattle.ra_any_order.specs.Changes.{ArePrevious}
use Rattle.ra_any_order.proofs.previous.previous_labels.Given as goal

abbrev pub invariant-loop-label : goal.invariant-loop-label
invariant-loop-label l = record {
  last_below : AreBelow l.label l.last.items;
  below : AreBelow l.label l.previous.items;
  earlier : (i : ℕ) → IfSome (get_or l.previous.items i None) (λ m. m < i);
  lasts : (past : History) → IsVisibilityOf l.tracker.now past → AreLastBelow past.records l.label l.last.items;
  each : (past : History) → IsVisibilityOf l.tracker.now past → ArePrevious past.records l.label l.previous.items;
  len : length l.previous.items ≡ l.label;
  wide : length l.last.items ≡ replicas_in l.tracker.now;
  within : l.label ≤ labels_in l.tracker.now;
}
