-- The origin of a label, and its operation.
use Rattle.std.specs.Prelude.{ℕ, List, Option, Some, None, option_and_then}
use Rattle.ra_labels.specs.declared.command.Command.{Command}
use Rattle.ra_labels.specs.declared.command.Command.TheVariants.{Operate}
use Rattle.ra_labels.specs.declared.operation.Op.{Op}
use Rattle.ra_labels.specs.Visibility.{is_update}
use Rattle.ra_monitor.specs.Monitor.{MonitorEntry}
use Rattle.ra_explain.specs.declared.origin.Origin.{Origin}
use Rattle.ra_explain.specs.Places.{command_at}

-- the origin of an operation; none of any other command
abbrev pub origin_in : Command → Option Origin
origin_in (Operate by op clock) = Some (record { replica = by; clock = clock; is_update = is_update op })
origin_in command = None

-- the origin of label n, given the labels' positions
abbrev pub origin_of : List MonitorEntry → List ℕ → ℕ → Option Origin
origin_of log places n = option_and_then origin_in (command_at log places n)

-- the operation of the command, if it is one
abbrev pub operation_in : Command → Option Op
operation_in (Operate by op clock) = Some op
operation_in command = None

-- the operation of label n, given the labels' positions
abbrev pub operation_of : List MonitorEntry → List ℕ → ℕ → Option Op
operation_of log places n = option_and_then operation_in (command_at log places n)
