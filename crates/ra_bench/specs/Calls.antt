-- The result of a call to the desk.
use Rattle.std.specs.Prelude.{◌≡◌, ℕ, Result, Ok, Err, Some}
use Rattle.ra_labels.specs.declared.command.Command.{Command}
use Rattle.ra_labels.specs.declared.reply.Reply.{Reply}
use Rattle.ra_desk.specs.declared.reporter.DeskReporter.{DeskReporter}
use Rattle.ra_desk.specs.Reports.{number_of, IsLogged}
use Rattle.ra_bench.specs.declared.fault.RunFault.{RunFault}
use Rattle.ra_bench.specs.declared.fault.RunFault.TheVariants.{Answered, Lock, NoMemory}
use Rattle.ra_bench.specs.Faults.{label_of}

-- holds if the fault is that of a report which the desk did not answer, made by the reporter with this number
abbrev pub IsOfDesk : ℕ → RunFault → Type 0
IsOfDesk number NoMemory = Unit {0}
IsOfDesk number (Lock replica) = replica ≡ number
IsOfDesk number _ = ⊥

-- Holds if the report is in the log with a reply that has this label number, or with the reply that the fault states,
-- or if the desk did not answer the report.
abbrev pub IsReported : DeskReporter → DeskReporter → Command → Result ℕ RunFault → Type 0
IsReported r s command (Ok label) = (reply : Reply) × (IsLogged r s command reply × (label_of reply ≡ Some label))
IsReported r s command (Err (Answered replica unwanted)) =
    IsLogged r s command unwanted.reply × (replica ≡ number_of r)
IsReported r s command (Err fault) = IsOfDesk (number_of r) fault
