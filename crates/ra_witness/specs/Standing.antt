-- The condition that the updates of labels and the states of replicas are those of a past.
use Rattle.std.specs.Prelude.{◌≡◌, ℕ, ◌<◌, List, length, Option, Some}
use Rattle.ra_labels.specs.declared.operation.Update.{Update}
use Rattle.ra_labels.specs.Specification.{State, state_after}
use Rattle.ra_labels.specs.Insertion.{delivered_updates}
use Rattle.ra_labels.specs.HistorySoFar.{History, replicas_of}
use Rattle.ra_witness.specs.Labels.{updates_by_number}
use Rattle.ra_witness.specs.States.{state_at}

-- holds if each label has its update, and each replica the state after its delivered updates, in the named order
pub record AreStatesOf (updates : List (Option Update)) (states : List State) (past : History) : Type 0 where
  pub labels : updates ≡ updates_by_number past.records
  pub replicas : length states ≡ replicas_of past
  pub folded : (replica : ℕ) → replica < length states
      → state_after past.kind (delivered_updates past.kind past.records replica) ≡ Some (state_at states replica)
