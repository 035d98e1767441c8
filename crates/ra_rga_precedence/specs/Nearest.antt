-- The answers that the next read of an RGA can return.
use Rattle.std.specs.Prelude.{◌≡◌, ◌<◌, ◌+◌, ℕ, List, ◌∷◌, Some, None, length, get_or, slice_get, option_map}
use Rattle.ra_labels.specs.declared.kind.Kind.TheVariants.{Rga}
use Rattle.ra_labels.specs.declared.operation.Op.{Op}
use Rattle.ra_labels.specs.declared.operation.Op.TheVariants as op
use Rattle.ra_labels.specs.Edges.{IsBefore}
use Rattle.ra_labels.specs.HistorySoFar.{History, history_with, operate, next_operation}
use Rattle.ra_labels.specs.Records.{Records, label_at}
use Rattle.ra_some_order.specs.SomeOrder.{SomeOrderExplains, EachLabelIsOfKind}
use Rattle.ra_visibility.specs.Tracked.{Tracked, IsVisibilityOf}
use Rattle.ra_rga_precedence.specs.Operations.{inserted_at}

-- the records with a read of the list by the replica
abbrev pub with_read : Records → ℕ → List ℕ → Records
with_read records replica list = operate (next_operation replica (op.RgaRead list) None) ∷ records

-- holds if some order explains the records and a read of the list by the replica
abbrev pub IsPossibleList : Records → ℕ → List ℕ → Type 0
IsPossibleList records replica list = SomeOrderExplains Rga (with_read records replica list)

-- holds if the other list has the element at the place and the next one of the list the other way round
abbrev pub IsTurned : List ℕ → List ℕ → ℕ → Type 0
IsTurned list other place =
    (place + 1 < length list) × IsBefore other (get_or list (place + 1) 0) (get_or list place 0)

-- holds if some possible list has the element at the place and the next one of the list the other way round
abbrev pub IsUndecided : Records → ℕ → List ℕ → ℕ → Type 0
IsUndecided records replica list place =
    (other : List ℕ) × IsPossibleList records replica other × IsTurned list other place

-- holds if the tracker represents the visibility of an RGA's past and a read of the replica behind it, of whatever
-- list, and the operations are those of the past
pub record IsPastOfRead (tracked : Tracked) (operations : List Op) (past : History) (replica : ℕ) : Type 0 where
  pub visibility : (list : List ℕ)
      → IsVisibilityOf tracked (history_with past (operate (next_operation replica (op.RgaRead list) None)))
  pub listed : (n : ℕ) → slice_get operations n ≡ option_map (λ label. label.op) (label_at past.records n)
  pub kind : past.kind ≡ Rga
  pub of_kind : EachLabelIsOfKind past.kind past.records

-- holds if the labels insert the elements, in this order
pub record AreElementsOf (operations : List Op) (labels elements : List ℕ) : Type 0 where
  pub len : length elements ≡ length labels
  pub each : (i : ℕ) → i < length labels → inserted_at operations (get_or labels i 0) ≡ Some (get_or elements i 0)
