-- The state that the updates delivered to a replica lead to.
use Rattle.std.specs.Prelude.{◌≡◌, ℕ, List, Option, None, Some, filter, option_and_then}
use Rattle.ra_labels.specs.declared.operation.Update.{Update}
use Rattle.ra_labels.specs.declared.command.Command.{Command}
use Rattle.ra_labels.specs.declared.command.Command.TheVariants.{Operate}
use Rattle.ra_labels.specs.Records.{Records}
use Rattle.ra_labels.specs.Visibility.{has_delivered}
use Rattle.ra_labels.specs.declared.operation.Op.{Op}
use Rattle.ra_labels.specs.Rewriting as rewriting
use Rattle.ra_labels.specs.Rewriting.{Act, Part, update_of, updates_of}
use Rattle.ra_labels.specs.Specification.{State, step_of, state_after}
use Rattle.ra_labels.specs.Insertion.{delivered_updates}
use Rattle.ra_monitor.specs.declared.setup.Setup.{Setup}
use Rattle.ra_monitor.specs.Monitor.{MonitorEntry, records_of, records_before_fault_in}
use Rattle.ra_witness.specs.Labels.{update_in}
use Rattle.ra_witness.specs.Sequence.{half_of}
use Rattle.ra_witness.specs.declared.part_ref.Half.TheVariants.{QueryHalf}
use Rattle.ra_explain.specs.Places.{places_in, command_at}

-- the update of the command, if it has one
abbrev pub update_by : Command → Option Update
update_by (Operate by op clock) = update_in op
update_by command = None

-- the update of label n, if it has one, given the labels' positions
abbrev pub update_at : List MonitorEntry → List ℕ → ℕ → Option Update
update_at log places n = option_and_then update_by (command_at log places n)

-- the updates of those of these parts that were delivered to the replica
abbrev pub updates_among : Records → ℕ → List Part → List Update
updates_among records replica parts = updates_of (filter (λ p. has_delivered records replica p.label.number) parts)

-- the state after this update, if there is one; none if the state does not admit it
abbrev pub after_one : State → Option Update → Option State
after_one state None = Some state
after_one state (Some update) = step_of state update

-- The state after the updates before the fault that were delivered to the replica, in the named order; none if one of
-- them is not admitted.
abbrev pub replica_state : Setup → List MonitorEntry → ℕ → Option State
replica_state setup log replica =
    state_after setup.kind (delivered_updates setup.kind (records_before_fault_in setup log) replica)

-- ---- one part

-- holds if a query half has no update, and any other part has the update of its label
pub record IsFine (operation : Op) (half : rewriting.Half) (act : Act) : Type 0 where
  pub query : half_of half ≡ QueryHalf → update_of act ≡ None
  pub other : ¬ (half_of half ≡ QueryHalf) → update_in operation ≡ update_of act

-- Holds if the log has the update of the part's label, and the part was delivered to the replica exactly if it was
-- delivered before the fault.
pub record IsKnown (setup : Setup) (log : List MonitorEntry) (replica : ℕ) (p : Part) : Type 0 where
  pub fine : IsFine p.label.op p.half p.act
  pub found : update_at log (places_in log) p.label.number ≡ update_in p.label.op
  pub had : has_delivered (records_of setup log) replica p.label.number
      ≡ has_delivered (records_before_fault_in setup log) replica p.label.number
