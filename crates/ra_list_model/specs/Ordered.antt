-- The specification of a list for one order of all its elements: as the free one, and the order is right.
use Rattle.std.specs.Prelude.{ℕ, ◌==◌, nat_eq, Bool, ◌&&◌, ◌||◌, List, Option, Some, None, fold, option_and_then, Contains, if◌then◌else◌}
use Rattle.std.specs.Cmp.Lexicographic.{pointwise}
use Rattle.ra_labels.specs.Edges.{EachOnce}
use Rattle.ra_labels.specs.Reads.{in_order}
use Rattle.ra_labels.specs.declared.insertion.Insertion.{Insertion}
use Rattle.ra_labels.specs.declared.list_operation.ListUpdate.{ListUpdate}
use Rattle.ra_labels.specs.declared.list_operation.ListUpdate.TheVariants.{Put, Hide}
use Rattle.ra_labels.specs.declared.list_operation.ListQuery.{ListQuery}
use Rattle.ra_labels.specs.declared.list_operation.ListQuery.TheVariants.{Near, Has, Read, Part}
use Rattle.ra_labels.specs.FreeList.{ListState, empty_list, shown_in, list_step, list_answers}
use Rattle.ra_list_model.specs.Order.{is_before}

-- `true` if the element is behind its left neighbour and before its right one, where they are named
abbrev pub is_between : List ℕ → Insertion → Bool
is_between order insertion =
    (insertion.left == 0 || is_before order insertion.left insertion.element)
    && (insertion.right == 0 || is_before order insertion.element insertion.right)

-- the state after the update; none if the state or the order does not admit it
abbrev pub list_step_at : List ℕ → ListState → ListUpdate → Option ListState
list_step_at order state (Put insertion) = if is_between order insertion then list_step state (Put insertion) else None
list_step_at order state (Hide x) = list_step state (Hide x)

-- `true` if the query's answer is right in the state, for this order
abbrev pub list_answers_at : List ℕ → ListState → ListQuery → Bool
list_answers_at order state (Near insertion) = list_answers state (Near insertion)
list_answers_at order state (Has x) = list_answers state (Has x)
list_answers_at order state (Read list) = pointwise nat_eq list (in_order order (shown_in state))
list_answers_at order state (Part list) = list_answers state (Part list) && pointwise nat_eq list (in_order order list)

abbrev pub list_state_at_from : List ℕ → Option ListState → List ListUpdate → Option ListState
list_state_at_from order state updates =
    fold (λ o update. option_and_then (λ s. list_step_at order s update) o) state updates

-- the state after the updates, applied to the empty list, for this order
abbrev pub list_state_at : List ℕ → List ListUpdate → Option ListState
list_state_at order updates = list_state_at_from order (Some empty_list) updates

-- holds if the order has each element once, and all that were inserted
pub record IsOrderFor (order : List ℕ) (state : ListState) : Type 0 where
  pub once : EachOnce order
  pub all : (x : ℕ) → Contains state.inserted x → Contains order x
