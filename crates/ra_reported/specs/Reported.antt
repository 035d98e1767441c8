-- What replicas reported, whatever the monitor answered.
use Rattle.std.specs.Prelude.{◌≡◌, ◌+◌, ℕ, List, [], ◌∷◌, Option, Some, None, is_some, option_and_then, take, if◌then◌else◌}
use Rattle.std.specs.List.{slice_get}
use Rattle.ra_labels.specs.declared.kind.Kind.{Kind}
use Rattle.ra_labels.specs.declared.operation.Op.{Op}
use Rattle.ra_labels.specs.declared.command.Command.{Command}
use Rattle.ra_labels.specs.declared.command.Command.TheVariants.{Operate}
use Rattle.ra_labels.specs.Records.{label_count}
use Rattle.ra_labels.specs.Answer.{refusal_of, with_accepted}
use Rattle.ra_labels.specs.HistorySoFar.{History, history_of, empty_history}
use Rattle.ra_monitor.specs.Monitor.{MonitorEntry, commands_of}

-- the history after a command that is accepted unless a reason to reject it applies; nothing is judged
abbrev pub reported_after : History → Command → History
reported_after past command =
    if is_some (refusal_of past.kind past.initial_replicas past.records command) then past
    else history_of past.kind past.initial_replicas (with_accepted past.records command)

-- the history after commands that are given one after another
abbrev pub reported_after_all : History → List Command → History
reported_after_all past [] = past
reported_after_all past (command ∷ commands) = reported_after_all (reported_after past command) commands

-- the history that a log reports
abbrev pub reported_in : Kind → ℕ → List MonitorEntry → History
reported_in kind replicas log = reported_after_all (empty_history kind replicas) (commands_of log)

-- the operation of a command, if it is one
abbrev pub operation_of : Command → Option Op
operation_of (Operate by op clock) = Some op
operation_of _ = None

-- the operation in the log at the place of label n
abbrev pub operation_at : List MonitorEntry → List ℕ → ℕ → Option Op
operation_at log places n =
    option_and_then (λ place. option_and_then (λ entry. operation_of entry.command) (slice_get log place))
    (slice_get places n)

-- holds if the entry at this place of the log becomes label n
pub record IsPlaceOf (kind : Kind) (replicas : ℕ) (log : List MonitorEntry) (n place : ℕ) : Type 0 where
  pub before : label_count (reported_in kind replicas (take place log)).records ≡ n
  pub with_it : label_count (reported_in kind replicas (take (place + 1) log)).records ≡ n + 1
