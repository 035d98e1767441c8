use Rattle.std.proofs.Common.{◌≡◌}
use Rattle.ra_labels.specs.HistorySoFar.{History}
use Rattle.ra_labels.specs.Places.{issuer_of}
use Rattle.ra_visibility.specs.Tracked.{labels_in}
use Rattle.ra_any_order.specs.Changes.{IsViewBelow, ArePrevious, AreChangesOf, IsViewOf}
use Rattle.ra_any_order.specs.Finding.{IsFinding, IsOfReplicaBelow}
use Rattle.ra_any_order.specs.Situation.{operations_in}
use Rattle.ra_any_order.proofs.changes.find_changes.Given as goal

abbrev pub invariant-loop-replica : goal.invariant-loop-replica
invariant-loop-replica l = record {
  last : l.view.last ≡ l.fn.view.last;
  below : IsViewBelow (labels_in l.tracker.now) l.view;
  found : (past : History) → AreChangesOf l.tracker.now (operations_in l.operations) past
      → ArePrevious past.records (labels_in l.tracker.now) l.previous
      → IsViewOf past.records (operations_in l.operations) (issuer_of past.records l.label) l.label l.fn.view
      → IsFinding past.records (operations_in l.operations) l.fn.view.last l.label
      (IsOfReplicaBelow past.records l.fn.view.last l.replica) l.view.newest l.changed.items;
}
