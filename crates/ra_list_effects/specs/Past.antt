-- What was done to a list: the states that the updates led to, and the edges of the operations.
use Rattle.std.specs.Prelude.{ℕ, Bool, true, not, List, [], ◌∷◌, ◌++◌, Option, Some, None, get_or, set, replicate, unwrap_or, is_some, if◌then◌else◌}
use Rattle.ra_labels.specs.declared.reply.Cause.{Cause}
use Rattle.ra_labels.specs.declared.reply.Cause.TheVariants.{Update, Query}
use Rattle.ra_labels.specs.declared.edge.Edge.{Edge}
use Rattle.ra_labels.specs.declared.list_operation.ListOp.{ListOp}
use Rattle.ra_labels.specs.declared.list_operation.ListUpdate.{ListUpdate}
use Rattle.ra_labels.specs.ListOperations.{query_of, update_of, edges_of}
use Rattle.ra_labels.specs.FreeList.{ListState, empty_list, list_step, list_answers}

pub record Past : Type 0 where
  -- the state after all updates
  pub whole : ListState
  -- the state of each replica after the updates that it has
  pub replicas : List ListState
  -- the update of each operation, if it has one
  pub updates : List (Option ListUpdate)
  -- the edges of all operations
  pub edges : List Edge

-- nothing was done yet
abbrev pub empty_past : ℕ → Past
empty_past replicas = record { whole = empty_list; replicas = replicate replicas empty_list; updates = []; edges = [] }

abbrev pub state_at : List ListState → ℕ → ListState
state_at replicas replica = get_or replicas replica empty_list

-- `true` if there is no update, or the state admits it
abbrev pub admits : ListState → Option ListUpdate → Bool
admits state None = true
admits state (Some update) = is_some (list_step state update)

-- the reason for which an operation at the replica fails, apart from its edges; none if there is none
abbrev pub cause_at : Past → ℕ → ListOp → Option Cause
cause_at past replica op =
    if not (admits past.whole (update_of op)) then Some Update
    else if not (list_answers (state_at past.replicas replica) (query_of op)) then Some Query
    else None

-- the state after the update; the same state if there is none or it is not admitted
abbrev pub after_update : ListState → Option ListUpdate → ListState
after_update state None = state
after_update state (Some update) = unwrap_or (list_step state update) state

-- the past with one more operation
abbrev pub with_operation : Past → ℕ → ListOp → ℕ → Past
with_operation past replica op label = record {
  whole = after_update past.whole (update_of op);
  replicas = set past.replicas replica (after_update (state_at past.replicas replica) (update_of op));
  updates = past.updates ++ update_of op ∷ [];
  edges = past.edges ++ edges_of label op;
}

-- the past after the delivery of an update
abbrev pub with_delivery : Past → ℕ → ListUpdate → Past
with_delivery past replica update = record {
  whole = past.whole;
  replicas = set past.replicas replica (after_update (state_at past.replicas replica) (Some update));
  updates = past.updates;
  edges = past.edges;
}

-- the past after the next replica joined
abbrev pub with_join : Past → ℕ → Past
with_join past from = record {
  whole = past.whole;
  replicas = past.replicas ++ state_at past.replicas from ∷ [];
  updates = past.updates;
  edges = past.edges;
}
