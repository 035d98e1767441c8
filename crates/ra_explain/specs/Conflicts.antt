-- The edges that the labels of a log require of an order of a list's elements, and a conflict of such edges.
use Rattle.std.specs.Prelude.{◌≡◌, ℕ, ◌⊎◌, Bool, true, false, List, [], length, take, map, flat_map, Option, IfSome, MatchOption}
use Rattle.std.specs.List.{range_with_len}
use Rattle.std.specs.Option.{option_map_or}
use Rattle.ra_labels.specs.declared.command.Command.{Command}
use Rattle.ra_labels.specs.declared.edge.Edge.{Edge}
use Rattle.ra_labels.specs.declared.kind.Kind.{Kind}
use Rattle.ra_labels.specs.declared.kind.Kind.TheVariants as kinds
use Rattle.ra_labels.specs.declared.reply.Cause.{Cause}
use Rattle.ra_labels.specs.declared.reply.Cause.TheVariants as causes
use Rattle.ra_labels.specs.Edges.{IsCycle}
use Rattle.ra_labels.specs.ListHistory.{edges_required_by}
use Rattle.ra_labels.specs.TheoremTerms.{HasNoDuplicates}
use Rattle.ra_monitor.specs.declared.setup.Setup.{Setup}
use Rattle.ra_monitor.specs.Monitor.{MonitorEntry}
use Rattle.ra_explain.specs.declared.changes.Change.TheVariants.{ComesBefore}
use Rattle.ra_explain.specs.declared.conflict.Conflict.{Conflict}
use Rattle.ra_explain.specs.declared.violation.Violation.{Violation}
use Rattle.ra_explain.specs.Agreement.{Agree, IsDisagreement}
use Rattle.ra_explain.specs.Changes.{command_holds_with}
use Rattle.ra_explain.specs.Origin.{operation_of}
use Rattle.ra_explain.specs.Places.{places_in}

-- the edges that label n requires, given the labels' positions
abbrev pub edges_at : List MonitorEntry → List ℕ → ℕ → List Edge
edges_at log places n = option_map_or (edges_required_by n) (operation_of log places n) []

-- the edges that the labels require, in their order, given the labels' positions
abbrev pub edges_of_labels : List MonitorEntry → List ℕ → List Edge
edges_of_labels log places = flat_map (edges_at log places) (range_with_len 0 (length places))

-- the elements at which the edges begin
abbrev pub starts_of : List Edge → List ℕ
starts_of edges = map (λ edge. edge.before) edges

-- holds if the list is empty, or a cycle of some of these edges that passes each of its elements once
abbrev pub IsCycleOrNone : List Edge → List Edge → Type 0
IsCycleOrNone edges cycle = (cycle ≡ []) ⊎ (IsCycle edges cycle × HasNoDuplicates (starts_of cycle))

-- Holds if the command is answered `ok` after the accepted ones of the entries before this position. The change at the
-- position leaves none of them out.
abbrev pub HoldsAt : Setup → List MonitorEntry → ℕ → Command → Type 0
HoldsAt setup log place command = command_holds_with setup (take place log) (ComesBefore place) command ≡ true

-- Holds if the conflict is one of the log with this violation: its cycle consists of edges that the labels require, the
-- other command would hold in place of the violating one, and its pairs are two elements that a label shows the other
-- way round than the violating label, if there are any.
pub record IsConflict (setup : Setup) (log : List MonitorEntry) (v : Violation) (conflict : Conflict) : Type 0 where
  pub cycle : IsCycleOrNone (edges_of_labels log (places_in log)) conflict.cycle.items
  pub holding : IfSome conflict.holding (HoldsAt setup log v.place)
  pub pairs : MatchOption conflict.pairs (Agree log (places_in log) v.fault.label)
      (IsDisagreement log (places_in log) v.fault.label)

-- `true` if a violation of this kind and cause is one by the order of a list
abbrev pub is_by_order : Kind → Cause → Bool
is_by_order kinds.List causes.Order = true
is_by_order kind cause = false

-- holds if there is a conflict exactly for a violation by the order of a list, and it is one of the log
abbrev pub HasConflict : Setup → List MonitorEntry → Violation → Option Conflict → Type 0
HasConflict setup log v found = MatchOption found (is_by_order setup.kind v.fault.cause ≡ false)
    (λ conflict. (is_by_order setup.kind v.fault.cause ≡ true) × IsConflict setup log v conflict)
