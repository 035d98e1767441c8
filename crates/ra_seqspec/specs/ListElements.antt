-- The list that two sets represent, its updates that need an allocation, and its right answers.
use Rattle.std.specs.Prelude.{ℕ, Bool, not, ◌&&◌, List, [], ◌∷◌, Option, Some, None, if◌then◌else◌}
use Rattle.std.specs.BTreeSet.{BTreeSet}
use Rattle.ra_labels.specs.declared.list_operation.ListUpdate.{ListUpdate}
use Rattle.ra_labels.specs.declared.list_operation.ListUpdate.TheVariants.{Put, Hide}
use Rattle.ra_labels.specs.declared.list_operation.ListQuery.{ListQuery}
use Rattle.ra_labels.specs.declared.list_operation.ListQuery.TheVariants.{Near, Has, Read, Part}
use Rattle.ra_labels.specs.Lists.{is_among}
use Rattle.ra_labels.specs.FreeList.{ListState, shown_in, can_insert, list_answers}

-- the list of the elements that were inserted and removed
abbrev pub list_of : BTreeSet ℕ → BTreeSet ℕ → ListState
list_of inserted removed = record { inserted = inserted.keys; removed = removed.keys }

-- `true` if the update is an insertion that the list admits, or the first removal of an element that it has
abbrev pub changes_list : ListState → ListUpdate → Bool
changes_list list (Put insertion) = can_insert list insertion
changes_list list (Hide x) = is_among x list.inserted && not (is_among x list.removed)

-- the elements among these that are shown, each at its last place alone
abbrev pub shown_among : ListState → List ℕ → List ℕ
shown_among list [] = []
shown_among list (x ∷ xs) =
    if is_among x (shown_in list) && not (is_among x xs) then x ∷ shown_among list xs else shown_among list xs

-- the query with a right answer in place of a wrong one; none if it asks for elements that are not in the list
abbrev pub corrected : ListState → ListQuery → Option ListQuery
corrected list (Near insertion) = None
corrected list (Has x) = None
corrected list (Read elements) = Some (Read (shown_in list))
corrected list (Part elements) = Some (Part (shown_among list elements))

-- the query, with another answer if its own is wrong
abbrev pub answered_list : ListState → ListQuery → Option ListQuery
answered_list list query = if list_answers list query then Some query else corrected list query
