-- RA-linearization of the records of a list, by the specification of a list for one order of its elements. These are
-- the definitions of ra_labels (`Specification`, `Linearization`), with the steps and the answers for the order in
-- place of the free ones.
use Rattle.std.specs.Prelude.{ℕ, Bool, false, true, List, Option, Some, None, option_map, option_and_then, fold, is_some, Contains, IsTrue, IsPermutation}
use Rattle.std.specs.Option.{option_map_or}
use Rattle.std.specs.List.{list_all}
use Rattle.ra_labels.specs.declared.kind.Kind.TheVariants as kinds
use Rattle.ra_labels.specs.declared.operation.Update.{Update}
use Rattle.ra_labels.specs.declared.operation.Update.TheVariants as updates
use Rattle.ra_labels.specs.declared.operation.Query.{Query}
use Rattle.ra_labels.specs.declared.operation.Query.TheVariants as queries
use Rattle.ra_labels.specs.Edges.{EachOnce}
use Rattle.ra_labels.specs.Specification.{State, Listing, initial_state}
use Rattle.ra_labels.specs.Records.{Records}
use Rattle.ra_labels.specs.ListHistory.{inserted_elements}
use Rattle.ra_labels.specs.Rewriting.{Part, query_of, updates_of}
use Rattle.ra_labels.specs.Linearization.{parts_in, is_visible_to, extends, visible_updates}
use Rattle.ra_list_model.specs.Ordered.{list_step_at, list_answers_at}

-- the state after the update; none if the state or the order does not admit it
abbrev pub step_at : List ℕ → State → Update → Option State
step_at order (Listing list) (updates.List change) = option_map Listing (list_step_at order list change)
step_at order _ _ = None

-- `true` if the query's answer is right in the state, for this order
abbrev pub answers_at : List ℕ → State → Query → Bool
answers_at order (Listing list) (queries.List question) = list_answers_at order list question
answers_at order _ _ = false

-- the state after the updates, applied to the empty list, for this order; none if one of them is not admitted
abbrev pub state_after_at : List ℕ → List Update → Option State
state_after_at order updates =
    fold (λ state update. option_and_then (λ s. step_at order s update) state) (Some (initial_state kinds.List)) updates

-- `true` if the updates are admitted and the query's answer is right in the state after them, for this order
abbrev pub is_answered_at : List ℕ → List Update → Query → Bool
is_answered_at order updates query =
    option_map_or (λ state. answers_at order state query) (state_after_at order updates) false

-- `true` if the updates of the sequence are admitted in its order, for this order of the elements
abbrev pub updates_admitted_at : List ℕ → List Part → Bool
updates_admitted_at order sequence = is_some (state_after_at order (updates_of sequence))

-- `true` if the part is no query, or is admitted after the updates that its label sees
abbrev pub is_query_admitted_at : List ℕ → Records → List Part → Part → Bool
is_query_admitted_at order records sequence part =
    option_map_or (is_answered_at order (visible_updates records sequence part.label.number)) (query_of part.act) true

-- `true` if each query of the sequence is admitted after the updates that it sees
abbrev pub queries_admitted_at : List ℕ → Records → List Part → Bool
queries_admitted_at order records sequence = list_all (is_query_admitted_at order records sequence) sequence

-- holds if the order has each element once, and all that the records insert
pub record IsOrderOfElements (order : List ℕ) (records : Records) : Type 0 where
  pub once : EachOnce order
  pub all : (x : ℕ) → Contains (inserted_elements records) x → Contains order x

-- Holds if the sequence is an RA-linearization of the records of a list for this order of its elements: it has each
-- part once and nothing else, and meets the three conditions by the specification of a list for this order.
pub record IsListLinearization (order : List ℕ) (precedes : Part → Part → Bool) (records : Records)
    (sequence : List Part) : Type 0 where
  pub elements : IsOrderOfElements order records
  pub each_part_once : IsPermutation (parts_in records) sequence
  pub visibility : IsTrue (extends precedes sequence)
  pub updates : IsTrue (updates_admitted_at order sequence)
  pub queries : IsTrue (queries_admitted_at order records sequence)

-- Holds if no order of the elements makes any sequence an RA-linearization, not even one that only has to extend
-- visibility.
abbrev pub NoOrderLinearizes : Records → Type 0
NoOrderLinearizes records =
    (order : List ℕ) (sequence : List Part) → ¬ IsListLinearization order (is_visible_to records) records sequence
