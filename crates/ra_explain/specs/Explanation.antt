-- The explanation of a log: its violation, with the reasons, and the changes that remove it.
use Rattle.std.specs.Prelude.{◌≡◌, ℕ, ◌+◌, ◌==◌, nat_lt, Bool, true, false, ◌&&◌, List, [], ◌∷◌, length, Option, Some, None, filter, map, option_map, option_and_then, if◌then◌else◌}
use Rattle.std.specs.List.{range_with_len, slice_get}
use Rattle.ra_labels.specs.declared.command.Command.{Command}
use Rattle.ra_labels.specs.declared.command.Command.TheVariants.{Operate, Deliver}
use Rattle.ra_labels.specs.declared.operation.Op.{Op}
use Rattle.ra_labels.specs.declared.reply.Cause.{Cause}
use Rattle.ra_labels.specs.declared.reply.Cause.TheVariants as cause
use Rattle.ra_labels.specs.declared.reply.Fault.{Fault}
use Rattle.ra_labels.specs.declared.reply.Reply.{Reply}
use Rattle.ra_labels.specs.declared.reply.Reply.TheVariants.{Got}
use Rattle.ra_labels.specs.Records.{label_count, replica_count, stamp_at}
use Rattle.ra_monitor.specs.declared.report.Report.{Report}
use Rattle.ra_monitor.specs.declared.setup.Setup.{Setup}
use Rattle.ra_monitor.specs.Monitor.{MonitorEntry, records_of, fault_in, refused_count}
use Rattle.ra_explain.specs.declared.explanation.Purpose.{Purpose}
use Rattle.ra_explain.specs.declared.explanation.Purpose.TheVariants as purpose
use Rattle.ra_explain.specs.declared.label_filter.LabelFilter.TheVariants.{MissingAt, StandAbove}
use Rattle.ra_explain.specs.declared.remedies.Remedies.{Remedies}
use Rattle.ra_explain.specs.declared.undelivered.Undelivered.{Undelivered}
use Rattle.ra_explain.specs.declared.violation.Violation.{Violation}
use Rattle.ra_explain.specs.Changes.{would_hold}
use Rattle.ra_explain.specs.Expected.{expected_answer_in}
use Rattle.ra_explain.specs.LabelFilter.{find_labels}
use Rattle.ra_explain.specs.Places.{places_in, command_at}
use Rattle.ra_explain.specs.Undelivered.{undelivered_at}

-- the log has this command of the replica at this position, as that of label n
pub record IsReported (log : List MonitorEntry) (n place replica : ℕ) (command : Command) : Type 0 where
  pub op : Op
  pub clock : Option ℕ
  pub issued : command ≡ Operate replica op clock
  pub at : slice_get (places_in log) n ≡ Some place
  pub found : command_at log (places_in log) n ≡ Some command

-- the violating label's command at this replica, with the expected answer in place of its own; none if there is none
abbrev pub expected_command_in : Setup → List MonitorEntry → ℕ → Option Command
expected_command_in setup log replica =
    option_map (λ op. Operate replica op None) (expected_answer_in setup log)

-- the labels that were delivered to the command's replica, with stamps above its own
abbrev pub above_in : Setup → List MonitorEntry → Command → List ℕ
above_in setup log (Operate by op (Some clock)) = find_labels setup log (StandAbove by (stamp_at by clock))
above_in setup log command = []

-- the same where the purpose needs them: for text, if the clock is the cause
abbrev pub above_for : Setup → List MonitorEntry → Purpose → Cause → Command → List ℕ
above_for setup log purpose.Text cause.Order command = above_in setup log command
above_for setup log other cause command = []

-- Holds if the violation is that of the log: the fault, the label's command, the expected answer, and what its replica
-- lacks.
pub record IsFound (setup : Setup) (log : List MonitorEntry) (purpose : Purpose) (v : Violation) : Type 0 where
  pub fault : fault_in setup log ≡ Some v.fault
  pub reported : IsReported log v.fault.label v.place v.replica v.reported
  pub expected : v.expected ≡ expected_command_in setup log v.replica
  pub lacking : v.lacking.items ≡ find_labels setup log (MissingAt v.replica)
  pub above : v.above.items ≡ above_for setup log purpose v.fault.cause v.reported

-- Holds if those of the tried changes are found with which the label at this position would hold.
abbrev pub HoldWith : Setup → List MonitorEntry → ℕ → Remedies → Type 0
HoldWith setup log place remedies =
    remedies.found.items ≡ filter (λ change. would_hold setup log place change) remedies.tried.items

-- holds if no change was tried and none was found
pub record AreNone (remedies : Remedies) : Type 0 where
  pub tried : remedies.tried.items ≡ []
  pub found : remedies.found.items ≡ []

-- holds if the report states the kind, the counts and the fault of the log
pub record IsReport (setup : Setup) (log : List MonitorEntry) (report : Report) : Type 0 where
  pub kind : report.kind ≡ setup.kind
  pub calls : report.calls ≡ length log
  pub labels : report.labels ≡ label_count (records_of setup log)
  pub refused : report.refused ≡ refused_count log
  pub fault : report.fault ≡ fault_in setup log

-- what was not delivered to each replica at the end of the log
abbrev pub all_undelivered : Setup → List MonitorEntry → List Undelivered
all_undelivered setup log =
    map (undelivered_at setup log) (range_with_len 0 (replica_count setup.replicas (records_of setup log)))

-- the same where the purpose needs it: for an object, and for the text of a pass
abbrev pub undelivered_for : Setup → List MonitorEntry → Purpose → Option Fault → List Undelivered
undelivered_for setup log purpose.Object fault = all_undelivered setup log
undelivered_for setup log purpose.Text None = all_undelivered setup log
undelivered_for setup log other fault = []

abbrev pub is_delivery_of : ℕ → ℕ → Command → Bool
is_delivery_of replica n (Deliver to label) = (to == replica) && (label == n)
is_delivery_of replica n command = false

abbrev pub is_got : Reply → Bool
is_got (Got label) = true
is_got reply = false

-- `true` if the entry is an accepted delivery of label n to the replica
abbrev pub delivers : MonitorEntry → ℕ → ℕ → Bool
delivers entry replica n = is_delivery_of replica n entry.command && is_got entry.reply

-- the position of the first of these entries that is an accepted delivery of label n to the replica; the entries begin
-- at the given position
abbrev pub delivery_from : ℕ → ℕ → ℕ → List MonitorEntry → Option ℕ
delivery_from replica n place [] = None
delivery_from replica n place (entry ∷ log) =
    if delivers entry replica n then Some place else delivery_from replica n (place + 1) log

-- the position if it fits into 32 bits, as each position of a monitor's log does
abbrev pub in_32_bits : ℕ → Option ℕ
in_32_bits place = if nat_lt place 4294967296 then Some place else None

-- the position of the entry that delivered label n to the replica, or none if there is none
abbrev pub delivery_of : List MonitorEntry → ℕ → ℕ → Option ℕ
delivery_of log replica n = option_and_then in_32_bits (delivery_from replica n 0 log)
