-- A read that comes next, of whatever answer.
use Rattle.std.specs.Prelude.{◌≡◌, ℕ, false, List, ◌∷◌, None, slice_get, option_map}
use Rattle.ra_labels.specs.declared.operation.Op.{Op}
use Rattle.ra_labels.specs.HistorySoFar.{History, history_with, operate, next_operation}
use Rattle.ra_labels.specs.Records.{Records, label_at}
use Rattle.ra_labels.specs.Visibility.{is_update}
use Rattle.ra_visibility.specs.Tracked.{Tracked, IsVisibilityOf}

-- the records with this read by the replica
abbrev pub with_read : Records → ℕ → Op → Records
with_read records replica read = operate (next_operation replica read None) ∷ records

-- holds if the tracker represents the visibility of the past with a read of the replica behind it, of whatever answer
abbrev pub IsReadNext : Tracked → History → ℕ → Type 0
IsReadNext tracked past replica = (read : Op) → is_update read ≡ false
    → IsVisibilityOf tracked (history_with past (operate (next_operation replica read None)))

-- holds if the list has the operation of each label
abbrev pub AreListedIn : List Op → Records → Type 0
AreListedIn operations records =
    (n : ℕ) → slice_get operations n ≡ option_map (λ label. label.op) (label_at records n)
