-- The view of a replica, as the state of the specification.
use Rattle.std.specs.Prelude.{◌≡◌, ℕ, ◌≤◌, not, List, length, Some, Contains, if◌then◌else◌}
use Rattle.std.specs.List.{slice_get}
use Rattle.ra_labels.specs.Lists.{is_among}
use Rattle.ra_list_replica.specs.declared.mark.Mark.{Mark}
use Rattle.ra_list_replica.specs.declared.mark.Mark.TheVariants.{Missing, Shown, Removed}
use Rattle.ra_list_replica.specs.View.{mark_at}
use Rattle.ra_labels.specs.FreeList.{ListState}

-- the mark of an element in a state
abbrev pub mark_in : ListState → ℕ → Mark
mark_in state x =
    if not (is_among x state.inserted) then Missing else if is_among x state.removed then Removed else Shown

-- holds if the marks are those of the state
pub record IsViewOf (elements : List ℕ) (marks : List Mark) (state : ListState) : Type 0 where
  pub marked : (number x : ℕ) → slice_get elements number ≡ Some x → mark_at marks number ≡ mark_in state x
  pub among : (x : ℕ) → Contains state.inserted x → Contains elements x
  pub only : (x : ℕ) → Contains state.removed x → Contains state.inserted x
  pub beyond : (number : ℕ) → length elements ≤ number → mark_at marks number ≡ Missing
