use Rattle.std.proofs.Common.{◌≡◌, ◌+◌, ◌<◌}
use Rattle.std.specs.Prelude.{IfSome}
use Rattle.std.specs.Option.{option_map_or}
use Rattle.ra_labels.specs.HistorySoFar.{History}
use Rattle.ra_visibility.specs.Tracked.{labels_in}
use Rattle.ra_any_order.specs.Changes.{IsViewBelow, ArePrevious, AreChangesOf}
use Rattle.ra_any_order.specs.Finding.{IsFinding, IsOfReplicaBelow, IsReached, IsNextOf}
use Rattle.ra_any_order.specs.Situation.{operations_in}
use Rattle.ra_any_order.proofs.changes.find_of_replica.Given as goal

abbrev pub decreases-loop-next : goal.decreases-loop-next
decreases-loop-next l = option_map_or (λ m. m + 1) l.next 0

abbrev pub invariant-loop-next : goal.invariant-loop-next
invariant-loop-next l = record {
  last : l.view.last ≡ l.fn.view.last;
  below : IsViewBelow (labels_in l.tracker.now) l.view;
  low : IfSome l.next (λ m. m < labels_in l.tracker.now);
  next : (past : History) → AreChangesOf l.tracker.now (operations_in l.operations) past
      → ArePrevious past.records (labels_in l.tracker.now) l.previous
      → IsNextOf past.records l.label l.replica l.next;
  found : (past : History) → AreChangesOf l.tracker.now (operations_in l.operations) past
      → ArePrevious past.records (labels_in l.tracker.now) l.previous
      → IsFinding past.records (operations_in l.operations) l.fn.view.last l.label
      (IsOfReplicaBelow past.records l.fn.view.last l.replica) l.fn.view.newest l.fn.changed.items
      → IsFinding past.records (operations_in l.operations) l.fn.view.last l.label
      (IsReached past.records l.fn.view.last l.replica l.next) l.view.newest l.changed.items;
}
