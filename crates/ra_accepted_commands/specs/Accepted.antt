-- The accepted commands of a log.
use Rattle.std.specs.Prelude.{Bool, true, false, not, ◌||◌, List, [], ◌∷◌, ◌++◌, if◌then◌else◌}
use Rattle.ra_labels.specs.declared.command.Command.{Command}
use Rattle.ra_labels.specs.declared.reply.Reply.{Reply}
use Rattle.ra_labels.specs.declared.reply.Reply.TheVariants as reply
use Rattle.ra_monitor.specs.Monitor.{MonitorEntry}

abbrev pub is_no : Reply → Bool
is_no (reply.No label why) = true
is_no _ = false

-- `true` if the reply is that of an accepted operation, delivery or join; of the replies `no`, only the first one is
abbrev pub is_accepting_reply : Bool → Reply → Bool
is_accepting_reply failed (reply.Ok label) = true
is_accepting_reply failed (reply.Got label) = true
is_accepting_reply failed (reply.Joined replica) = true
is_accepting_reply failed (reply.Yes labels) = false
is_accepting_reply failed (reply.No label why) = not failed
is_accepting_reply failed (reply.Refused why) = false

-- the command, if it was accepted
abbrev pub accepted_one : Bool → MonitorEntry → List Command
accepted_one failed entry = if is_accepting_reply failed entry.reply then entry.command ∷ [] else []

-- the accepted commands of entries, oldest first, given whether a `no` came before
abbrev pub accepted_in : Bool → List MonitorEntry → List Command
accepted_in failed [] = []
accepted_in failed (entry ∷ log) = accepted_one failed entry ++ accepted_in (failed || is_no entry.reply) log
