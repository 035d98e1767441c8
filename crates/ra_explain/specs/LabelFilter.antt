-- The labels of a log with a given property.
use Rattle.std.specs.Prelude.{ℕ, ◌==◌, Bool, false, not, ◌&&◌, List, Option, Some, filter, length}
use Rattle.std.specs.List.{range_with_len}
use Rattle.std.specs.Option.{option_map_or, option_eq}
use Rattle.std.specs.Ordering.{is_lt}
use Rattle.ra_labels.specs.declared.operation.Op.{Op}
use Rattle.ra_labels.specs.declared.operation.Op.TheVariants.{OrAdd, After}
use Rattle.ra_labels.specs.declared.operation.Op.TheVariants as op
use Rattle.ra_labels.specs.declared.list_operation.ListOp.TheVariants as list
use Rattle.ra_labels.specs.declared.label.Stamp.{Stamp}
use Rattle.ra_labels.specs.declared.command.Command.{Command}
use Rattle.ra_labels.specs.declared.command.Command.TheVariants.{Operate}
use Rattle.ra_labels.specs.Records.{label_count, stamp_at}
use Rattle.ra_labels.specs.Visibility.{has_delivered, is_update}
use Rattle.ra_labels.specs.NamedOrder.{stamp_cmp}
use Rattle.ra_monitor.specs.declared.setup.Setup.{Setup}
use Rattle.ra_monitor.specs.Monitor.{MonitorEntry, records_of}
use Rattle.ra_explain.specs.declared.label_filter.LabelFilter.{LabelFilter}
use Rattle.ra_explain.specs.declared.label_filter.LabelFilter.TheVariants.{MissingAt, StandAbove}
use Rattle.ra_explain.specs.declared.label_filter.LabelsWith.{LabelsWith}
use Rattle.ra_explain.specs.declared.label_filter.LabelsWith.TheVariants as brought
use Rattle.ra_explain.specs.Places.{places_in, command_at}

-- `true` if the operation inserts the element into a list
abbrev pub puts_in : ℕ → Op → Bool
puts_in x (After anchor element) = element == x
puts_in x (op.List (list.Insert insertion)) = insertion.element == x
puts_in x other = false

-- `true` if the operation gives the identifier
abbrev pub gives : ℕ → Op → Bool
gives id (OrAdd x given) = given == id
gives id op = false

-- `true` if there is a clock, and its stamp at this replica is above the other stamp
abbrev pub is_above : Stamp → ℕ → Option ℕ → Bool
is_above stamp by clock = option_map_or (λ at. is_lt (stamp_cmp stamp (stamp_at by at))) clock false

-- `true` if the label with this number and this command has the property
abbrev pub is_such : Setup → List MonitorEntry → LabelFilter → ℕ → Command → Bool
is_such setup log (MissingAt replica) n (Operate by op clock) =
    is_update op && not (has_delivered (records_of setup log) replica n)
is_such setup log (StandAbove replica stamp) n (Operate by op clock) =
    is_above stamp by clock && has_delivered (records_of setup log) replica n
is_such setup log sort n command = false

-- `true` if label n has the property, given the labels' positions
abbrev pub is_such_at : Setup → List MonitorEntry → List ℕ → LabelFilter → ℕ → Bool
is_such_at setup log places sort n = option_map_or (is_such setup log sort n) (command_at log places n) false

-- the labels with the property, in increasing order
abbrev pub find_labels : Setup → List MonitorEntry → LabelFilter → List ℕ
find_labels setup log sort =
    filter (is_such_at setup log (places_in log) sort) (range_with_len 0 (label_count (records_of setup log)))

-- ---- by unique key

-- `true` if the command has this unique key
abbrev pub is_with : LabelsWith → Command → Bool
is_with (brought.Element x) (Operate by op clock) = puts_in x op
is_with (brought.Stamp own) (Operate by op clock) =
    by == own.replica && option_eq (λ c d. c == d) clock (Some own.clock)
is_with (brought.Identifier id) (Operate by op clock) = gives id op
is_with sort command = false

-- `true` if label n has this unique key, given the labels' positions
abbrev pub is_with_at : List MonitorEntry → List ℕ → LabelsWith → ℕ → Bool
is_with_at log places sort n = option_map_or (is_with sort) (command_at log places n) false

-- the labels with this unique key, in increasing order, given the labels' positions
abbrev pub labels_with : List MonitorEntry → List ℕ → LabelsWith → List ℕ
labels_with log places sort = filter (is_with_at log places sort) (range_with_len 0 (length places))
