-- The operations of the labels that a log reports.
use Rattle.std.specs.Prelude.{◌≡◌, ℕ, List, length, slice_get, Option, Some, option_map, option_and_then}
use Rattle.ra_labels.specs.declared.kind.Kind.{Kind}
use Rattle.ra_labels.specs.declared.operation.Op.{Op}
use Rattle.ra_labels.specs.Records.{label_at, label_count}
use Rattle.ra_labels.specs.HistorySoFar.{History}
use Rattle.ra_some_order.specs.SomeOrder.{EachLabelIsOfKind}
use Rattle.ra_visibility.specs.Tracked.{Tracked, IsVisibilityOf}
use Rattle.ra_monitor.specs.Monitor.{MonitorEntry}
use Rattle.ra_reported.specs.Reported.{operation_of, reported_in, IsPlaceOf}
use Rattle.ra_any_order.specs.Situation.{operations_in}
use Rattle.ra_another_order.specs.declared.labels.Labels.{Labels}

-- the operation at this place of the log; none if there is none
abbrev pub operation_there : List MonitorEntry → ℕ → Option Op
operation_there log place = option_and_then (λ entry. operation_of entry.command) (slice_get log place)

-- holds if the tracker represents the visibility of the past, and the list has the operation of each of its labels
pub record AreLabelsOf (tracked : Tracked) (operations : List Op) (past : History) : Type 0 where
  pub visibility : IsVisibilityOf tracked past
  pub listed : (n : ℕ) → slice_get operations n ≡ option_map (λ label. label.op) (label_at past.records n)
  pub of_kind : EachLabelIsOfKind past.kind past.records

-- holds if these are the labels that the log reports, with their places in the log and their operations
pub record AreReported (kind : Kind) (replicas : ℕ) (log : List MonitorEntry) (it : Labels) : Type 0 where
  pub visibility : IsVisibilityOf it.tracker.now (reported_in kind replicas log)
  pub count : length it.places.items ≡ label_count (reported_in kind replicas log).records
  pub places : (n place : ℕ) → slice_get it.places.items n ≡ Some place → IsPlaceOf kind replicas log n place
  pub operations : (n : ℕ) → slice_get (operations_in it.operations.items) n
      ≡ option_map (λ label. label.op) (label_at (reported_in kind replicas log).records n)
