-- The history that the question is about: what the tracker and the operations represent.
use Rattle.std.specs.Prelude.{◌≡◌, ℕ, List, map, slice_get, option_map}
use Rattle.std.specs.Borrow.{Bor}
use Rattle.ra_labels.specs.declared.operation.Op.{Op}
use Rattle.ra_labels.specs.declared.kind.Kind.TheVariants.{Rga}
use Rattle.ra_labels.specs.Records.{label_at}
use Rattle.ra_labels.specs.HistorySoFar.{History}
use Rattle.ra_some_order.specs.SomeOrder.{EachLabelIsOfKind}
use Rattle.ra_visibility.specs.Tracked.{Tracked, IsVisibilityOf}

-- the operations behind references
abbrev pub operations_in : List (Bor Op) → List Op
operations_in operations = map (λ op. op.now) operations

-- holds if the tracker represents the visibility of an RGA's past, and the list has the operation of each label
pub record IsHistoryOf (tracked : Tracked) (operations : List Op) (past : History) : Type 0 where
  pub visibility : IsVisibilityOf tracked past
  pub listed : (n : ℕ) → slice_get operations n ≡ option_map (λ label. label.op) (label_at past.records n)
  pub kind : past.kind ≡ Rga
  pub of_kind : EachLabelIsOfKind past.kind past.records
