-- Whether an RGA's history holds as one of a list without clocks.
use Rattle.std.specs.Prelude.{ℕ, Bool, false, List, [], ◌∷◌, ◌++◌, None, take, slice_get, if◌then◌else◌}
use Rattle.std.specs.Option.{option_map_or}
use Rattle.ra_labels.specs.declared.command.Command.{Command}
use Rattle.ra_labels.specs.declared.command.Command.TheVariants.{Operate}
use Rattle.ra_labels.specs.declared.kind.Kind.TheVariants.{List as OfList}
use Rattle.ra_labels.specs.declared.operation.Op.{Op}
use Rattle.ra_labels.specs.declared.operation.Op.TheVariants as op
use Rattle.ra_labels.specs.declared.list_operation.ListOp.TheVariants as list
use Rattle.ra_monitor.specs.declared.setup.Setup.{Setup}
use Rattle.ra_monitor.specs.Monitor.{MonitorEntry}
use Rattle.ra_accepted_commands.specs.Accepted.{is_accepting_reply}
use Rattle.ra_explain.specs.Changes.{holds_after}

-- the operation of a list that shows and changes what this one of an RGA does; an insertion names no neighbours
abbrev pub list_op : Op → Op
list_op (op.After anchor x) = op.List (list.Insert (record { left = 0; element = x; right = 0 }))
list_op (op.RgaRemove x) = op.List (list.Remove x)
list_op (op.RgaRead xs) = op.List (list.Read xs)
list_op other = other

abbrev pub list_command : Command → Command
list_command (Operate by operation clock) = Operate by (list_op operation) None
list_command other = other

abbrev pub accepted_one : MonitorEntry → List Command
accepted_one entry = if is_accepting_reply false entry.reply then list_command entry.command ∷ [] else []

-- the accepted commands of these entries before the first `no`, as those of a list
abbrev pub list_commands : List MonitorEntry → List Command
list_commands [] = []
list_commands (entry ∷ log) = accepted_one entry ++ list_commands log

abbrev pub list_setup : Setup → Setup
list_setup setup = record { kind = OfList; replicas = setup.replicas; limit = setup.limit }

-- `true` if the label at this position holds as one of a list, after the accepted commands before it
abbrev pub is_one_list : Setup → List MonitorEntry → ℕ → Bool
is_one_list setup log place = option_map_or
    (λ entry. holds_after (list_setup setup) (list_commands (take place log)) (list_command entry.command))
    (slice_get log place) false
