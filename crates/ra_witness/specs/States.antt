-- The states of replicas.
use Rattle.std.specs.Prelude.{ℕ, pos, List, Option, Some, None, get_or, set, unwrap_or, IfSome}
use Rattle.ra_labels.specs.declared.operation.Update.{Update}
use Rattle.ra_labels.specs.Specification.{State, Number, step_of}
use Rattle.ra_seqspec.specs.Range.{IsInRange}

-- the replica's state
abbrev pub state_at : List State → ℕ → State
state_at states replica = get_or states replica (Number (pos 0))

-- the update of label n, if it has one
abbrev pub update_at : List (Option Update) → ℕ → Option Update
update_at updates n = get_or updates n None

-- the next state; the same state if there is no update or it is not admitted
abbrev pub after_step : State → Option Update → State
after_step state None = state
after_step state (Some update) = unwrap_or (step_of state update) state

-- holds if the state that the update leads to, if any, is in range
abbrev pub CanStep : State → Option Update → Type 0
CanStep state None = Unit {0}
CanStep state (Some update) = IfSome (step_of state update) IsInRange

-- the states after the replica has made the step
abbrev pub states_after : List State → ℕ → Option Update → List State
states_after states replica update = set states replica (after_step (state_at states replica) update)

-- the number of calls of `State::apply` that the step takes
abbrev pub steps_of : Option Update → ℕ
steps_of None = 0
steps_of (Some update) = 1
