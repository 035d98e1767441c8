-- A monitor, as contracts describe it: its setup, its log, and the number of entries that there is room for.
use Rattle.std.specs.Prelude.{◌≡◌, ℕ, List, [], map, count_by, Option, Some, option_map, ◌↔◌}
use Rattle.ra_journal.specs.declared.entry.Entry.{Entry}
use Rattle.ra_journal.specs.Log.{IsLegal, IsAboveLast}
use Rattle.ra_labels.specs.declared.kind.Kind.TheVariants as kinds
use Rattle.ra_labels.specs.declared.command.Command.{Command}
use Rattle.ra_labels.specs.declared.reply.Reply.{Reply}
use Rattle.ra_labels.specs.declared.reply.Reply.TheVariants.{No}
use Rattle.ra_labels.specs.declared.reply.Cause.{Cause}
use Rattle.ra_labels.specs.declared.reply.Cause.TheVariants as cause
use Rattle.ra_labels.specs.declared.reply.Fault.{Fault}
use Rattle.ra_labels.specs.Records.{Records}
use Rattle.ra_labels.specs.Rewriting.{Part}
use Rattle.ra_labels.specs.Linearization.{IsRaLinearization}
use Rattle.ra_labels.specs.Fault.{fault_of, fault_at, records_before_fault}
use Rattle.ra_labels.specs.Answer.{answer_of, records_after_all}
use Rattle.ra_theorems.specs.AnyOrder.{IsFinal}
use Rattle.ra_monitor.specs.declared.setup.Setup.{Setup}
use Rattle.ra_monitor.specs.Replies.{is_refused}

abbrev pub MonitorEntry : Type 0
MonitorEntry = Entry Command Reply

pub record Monitor : Type 0 where
  pub setup : Setup
  -- oldest entry first
  pub log : List MonitorEntry
  -- the number of further entries that can be logged without an allocation, within the limit
  pub room : ℕ

abbrev pub commands_of : List MonitorEntry → List Command
commands_of log = map (λ entry. entry.command) log

-- the records after the commands of a log
abbrev pub records_of : Setup → List MonitorEntry → Records
records_of setup log = records_after_all setup.kind setup.replicas [] (commands_of log)

-- the single-threaded monitor's answer after the entries of a log
abbrev pub answer_after : Setup → List MonitorEntry → Command → Reply
answer_after setup before command = answer_of setup.kind setup.replicas (records_of setup before) command

abbrev pub IsLegalLog : Setup → List MonitorEntry → Type 0
IsLegalLog setup log = IsLegal (answer_after setup) log

-- holds if the ticket is above the last one of the log
abbrev pub IsNextTicket : Monitor → ℕ → Type 0
IsNextTicket monitor ticket = IsAboveLast monitor.log ticket

-- the records of a log before its fault; all of them if it has none
abbrev pub records_before_fault_in : Setup → List MonitorEntry → Records
records_before_fault_in setup log = records_before_fault setup.kind (records_of setup log)

abbrev pub fault_in : Setup → List MonitorEntry → Option Fault
fault_in setup log = fault_of setup.kind (records_of setup log)

-- the label of the fault of a log, if it has one
abbrev pub fault_label_in : Setup → List MonitorEntry → Option ℕ
fault_label_in setup log = option_map (λ fault. fault.label) (fault_in setup log)

-- holds if the log is that of a list, and its fault is the order
abbrev pub IsOrderFault : Setup → List MonitorEntry → Type 0
IsOrderFault setup log =
    (setup.kind ≡ kinds.List) × (label : ℕ) × (fault_in setup log ≡ Some (fault_at label cause.Order))

abbrev pub refused_count : List MonitorEntry → ℕ
refused_count log = count_by (λ entry. is_refused entry.reply) log

-- holds if some sequence is an RA-linearization of the records of the log
abbrev pub IsRaLinearizable : Setup → List MonitorEntry → Type 0
IsRaLinearizable setup log = (sequence : List Part) × IsRaLinearization setup.kind (records_of setup log) sequence

-- holds if the reply is `No` with a label and a cause exactly where these are the fault of the log
abbrev pub IsNoAtFault : Setup → List MonitorEntry → Reply → Type 0
IsNoAtFault setup log reply =
    (label : ℕ) (cause : Cause) → (reply ≡ No label cause) ↔ (fault_in setup log ≡ Some (fault_at label cause))

-- Holds if the fault, where there is one, is final: no sequence at all is an RA-linearization of the records of the log
-- up to its label.
abbrev pub IsFinalFault : Setup → List MonitorEntry → Option Fault → Type 0
IsFinalFault setup log fault = (label : ℕ) (cause : Cause) → fault ≡ Some (fault_at label cause)
    → IsFinal setup.kind (records_of setup log) label

-- holds if the violation that the reply states, if it states one, is final
abbrev pub IsFinalNo : Setup → List MonitorEntry → Reply → Type 0
IsFinalNo setup log reply = (label : ℕ) (cause : Cause) → reply ≡ No label cause
    → IsFinal setup.kind (records_of setup log) label
