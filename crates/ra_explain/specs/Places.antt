-- The positions of labels in a log.
use Rattle.std.specs.Prelude.{ℕ, ◌+◌, Bool, true, false, ◌&&◌, ◌||◌, List, [], ◌∷◌, ◌++◌, Option, option_map, option_and_then, if◌then◌else◌}
use Rattle.std.specs.List.{slice_get}
use Rattle.ra_labels.specs.declared.command.Command.{Command}
use Rattle.ra_labels.specs.declared.command.Command.TheVariants.{Operate}
use Rattle.ra_monitor.specs.Monitor.{MonitorEntry}
use Rattle.ra_accepted_commands.specs.Accepted.{is_no, is_accepting_reply}

abbrev pub is_operation : Command → Bool
is_operation (Operate by op clock) = true
is_operation command = false

-- `true` if the entry's command is an operation that was accepted, given whether a `no` came before
abbrev pub is_label : Bool → MonitorEntry → Bool
is_label failed entry = is_operation entry.command && is_accepting_reply failed entry.reply

-- the position, if there is a label at it
abbrev pub place_if_label : Bool → ℕ → MonitorEntry → List ℕ
place_if_label failed at entry = if is_label failed entry then at ∷ [] else []

-- the positions of the labels among entries, the first of which is at this position
abbrev pub places_from : Bool → ℕ → List MonitorEntry → List ℕ
places_from failed at [] = []
places_from failed at (entry ∷ log) =
    place_if_label failed at entry ++ places_from (failed || is_no entry.reply) (at + 1) log

-- the positions of the labels in the log, in the order of their numbers
abbrev pub places_in : List MonitorEntry → List ℕ
places_in log = places_from false 0 log

-- the entry of label n, given the labels' positions
abbrev pub entry_at : List MonitorEntry → List ℕ → ℕ → Option MonitorEntry
entry_at log places n = option_and_then (slice_get log) (slice_get places n)

-- the command of label n, given the labels' positions
abbrev pub command_at : List MonitorEntry → List ℕ → ℕ → Option Command
command_at log places n = option_map (λ entry. entry.command) (entry_at log places n)
