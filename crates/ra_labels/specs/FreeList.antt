-- The free specification of a list: which elements are in it and which of them are shown, but not in which order.
use Rattle.std.specs.Prelude.{ℕ, ◌==◌, Bool, true, not, ◌&&◌, ◌||◌, List, [], ◌∷◌, Option, Some, None, filter, fold, option_and_then, if◌then◌else◌}
use Rattle.std.specs.List.{list_all}
use Rattle.std.specs.Ordering.{nat_cmp}
use Rattle.std.specs.BTreeSet.{insert_key}
use Rattle.ra_labels.specs.Lists.{is_among, have_same_elements}
use Rattle.ra_labels.specs.declared.insertion.Insertion.{Insertion}
use Rattle.ra_labels.specs.declared.list_operation.ListUpdate.{ListUpdate}
use Rattle.ra_labels.specs.declared.list_operation.ListUpdate.TheVariants.{Put, Hide}
use Rattle.ra_labels.specs.declared.list_operation.ListQuery.{ListQuery}
use Rattle.ra_labels.specs.declared.list_operation.ListQuery.TheVariants.{Near, Has, Read, Part}

-- the state of a list: what was inserted, and what was removed, each as a strictly increasing list
pub record ListState : Type 0 where
  pub inserted : List ℕ
  pub removed : List ℕ

abbrev pub empty_list : ListState
empty_list = record { inserted = []; removed = [] }

-- the elements that are shown: those that were inserted and not removed
abbrev pub shown_in : ListState → List ℕ
shown_in state = filter (λ x. not (is_among x state.removed)) state.inserted

-- `true` if no neighbour is named, or one that was inserted
abbrev pub is_neighbor : ListState → ℕ → Bool
is_neighbor state x = x == 0 || is_among x state.inserted

abbrev pub are_neighbors : ListState → Insertion → Bool
are_neighbors state insertion = is_neighbor state insertion.left && is_neighbor state insertion.right

-- `true` if the element of the insertion is new, and its neighbours are there
abbrev pub can_insert : ListState → Insertion → Bool
can_insert state insertion =
    not (insertion.element == 0) && not (is_among insertion.element state.inserted) && are_neighbors state insertion

-- the state after the update; none if the state does not admit it
abbrev pub list_step : ListState → ListUpdate → Option ListState
list_step state (Put insertion) =
    if can_insert state insertion
    then Some (record { inserted = insert_key nat_cmp state.inserted insertion.element; removed = state.removed })
    else None
list_step state (Hide x) =
    if is_among x state.inserted
    then Some (record { inserted = state.inserted; removed = insert_key nat_cmp state.removed x })
    else None

-- `true` if no element is in the list twice
abbrev pub has_each_once : List ℕ → Bool
has_each_once [] = true
has_each_once (x ∷ xs) = not (is_among x xs) && has_each_once xs

-- `true` if the query's answer is right in the state, apart from the order of its elements
abbrev pub list_answers : ListState → ListQuery → Bool
list_answers state (Near insertion) = are_neighbors state insertion
list_answers state (Has x) = is_among x state.inserted
list_answers state (Read list) = has_each_once list && have_same_elements list (shown_in state)
list_answers state (Part list) = has_each_once list && list_all (λ x. is_among x (shown_in state)) list

-- the state after the updates, applied in this order to a state; none if one of them is not admitted
abbrev pub list_state_from : Option ListState → List ListUpdate → Option ListState
list_state_from state updates = fold (λ o update. option_and_then (λ s. list_step s update) o) state updates

-- the state after the updates, applied to the empty list
abbrev pub list_state_after : List ListUpdate → Option ListState
list_state_after updates = list_state_from (Some empty_list) updates
