-- Whether the violating label would hold after one change to what was delivered to its replica.
use Rattle.std.specs.Prelude.{ℕ, ◌+◌, ◌==◌, nat_lt, Bool, true, false, not, ◌&&◌, ◌||◌, List, [], ◌∷◌, ◌++◌, take, slice_get, if◌then◌else◌}
use Rattle.std.specs.Option.{option_map_or}
use Rattle.ra_labels.specs.declared.command.Command.{Command}
use Rattle.ra_labels.specs.declared.command.Command.TheVariants.{Operate, Deliver, Join}
use Rattle.ra_labels.specs.declared.reply.Reply.{Reply}
use Rattle.ra_labels.specs.declared.reply.Reply.TheVariants as reply
use Rattle.ra_labels.specs.Records.{Records}
use Rattle.ra_labels.specs.Answer.{answer_of, records_after_all}
use Rattle.ra_monitor.specs.declared.setup.Setup.{Setup}
use Rattle.ra_monitor.specs.Monitor.{MonitorEntry}
use Rattle.ra_accepted_commands.specs.Accepted.{is_accepting_reply}
use Rattle.ra_explain.specs.declared.changes.Change.{Change}
use Rattle.ra_explain.specs.declared.changes.Change.TheVariants.{Gets, Misses, ComesBefore}

-- `true` if the command is a delivery to the replica
abbrev pub reaches : ℕ → Command → Bool
reaches replica (Deliver to label) = to == replica
reaches replica command = false

-- `true` if with the change the command at this position of the log is left out
abbrev pub is_left_out : Change → ℕ → ℕ → Command → Bool
is_left_out (Gets label) replica place command = false
is_left_out (Misses at) replica place command = (place == at) && reaches replica command
is_left_out (ComesBefore at) replica place command = not (nat_lt place at) && reaches replica command

-- `true` if the command was accepted and is not left out
abbrev pub is_kept : Change → ℕ → ℕ → MonitorEntry → Bool
is_kept change replica place entry =
    is_accepting_reply false entry.reply && not (is_left_out change replica place entry.command)

abbrev pub kept_one : Change → ℕ → ℕ → MonitorEntry → List Command
kept_one change replica place entry = if is_kept change replica place entry then entry.command ∷ [] else []

-- The accepted commands that are not left out, of entries before the first `no`, the first of which is at this
-- position.
abbrev pub kept_from : Change → ℕ → ℕ → List MonitorEntry → List Command
kept_from change replica place [] = []
kept_from change replica place (entry ∷ log) =
    kept_one change replica place entry ++ kept_from change replica (place + 1) log

-- the command that the change adds after them, if any
abbrev pub added_by : Change → ℕ → List Command
added_by (Gets label) replica = Deliver replica label ∷ []
added_by change replica = []

-- the commands before a label of the replica, with the change
abbrev pub commands_with : Change → ℕ → List MonitorEntry → List Command
commands_with change replica log = kept_from change replica 0 log ++ added_by change replica

-- the records after these commands
abbrev pub records_with : Setup → Change → ℕ → List MonitorEntry → Records
records_with setup change replica before =
    records_after_all setup.kind setup.replicas [] (commands_with change replica before)

abbrev pub is_ok : Reply → Bool
is_ok (reply.Ok label) = true
is_ok other = false

-- `true` if the command is answered `ok` after these: it is accepted as a label at which the records hold
abbrev pub holds_after : Setup → List Command → Command → Bool
holds_after setup commands command =
    is_ok (answer_of setup.kind setup.replicas (records_after_all setup.kind setup.replicas [] commands) command)

-- `true` if the command is an operation that is answered `ok` after these entries with the change
abbrev pub command_holds_with : Setup → List MonitorEntry → Change → Command → Bool
command_holds_with setup before change (Operate by op clock) =
    holds_after setup (commands_with change by before) (Operate by op clock)
command_holds_with setup before change command = false

-- `true` if the label at this position of the log would hold with the change
abbrev pub would_hold : Setup → List MonitorEntry → ℕ → Change → Bool
would_hold setup log place change =
    option_map_or (λ entry. command_holds_with setup (take place log) change entry.command) (slice_get log place) false

-- ---- what was delivered to the replica last

-- `true` if deliveries to the replica before the command are left as they are, since others depend on them: the replica
-- issued a label or joined, or another one joined from it
abbrev pub cuts_off : ℕ → Command → Bool
cuts_off replica (Operate by op clock) = by == replica
cuts_off replica (Join joined from) = (joined == replica) || (from == replica)
cuts_off replica command = false

-- the positions of deliveries to the replica since such a command, after one more entry, which is at this position
abbrev pub got_with : ℕ → ℕ → List ℕ → MonitorEntry → List ℕ
got_with replica place got entry =
    if not (is_accepting_reply false entry.reply) then got
    else if cuts_off replica entry.command then []
    else if reaches replica entry.command then got ++ place ∷ []
    else got

-- the same after these entries, the first of which is at this position
abbrev pub got_from : ℕ → ℕ → List ℕ → List MonitorEntry → List ℕ
got_from replica place got [] = got
got_from replica place got (entry ∷ log) = got_from replica (place + 1) (got_with replica place got entry) log

-- The positions of the deliveries to the replica since its last label, its join or the last join from it, oldest first.
abbrev pub got_last : ℕ → List MonitorEntry → List ℕ
got_last replica log = got_from replica 0 [] log
