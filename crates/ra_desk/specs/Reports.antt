-- A reporter of a desk, as contracts describe it: its number, the setup of the monitor, and the log as far as the
-- reporter has seen it.
use Rattle.std.specs.Prelude.{◌≡◌, ℕ, ◌-◌, ◌<◌, ◌≤◌, List, [], ◌∷◌, ◌++◌, length, map, take}
use Rattle.ra_journal.specs.Log.{BeginsWith, entry, entries_of}
use Rattle.ra_labels.specs.declared.command.Command.{Command}
use Rattle.ra_labels.specs.declared.reply.Reply.{Reply}
use Rattle.ra_monitor.specs.declared.monitor.Monitor.{Monitor}
use Rattle.ra_monitor.specs.declared.setup.Setup.{Setup}
use Rattle.ra_monitor.specs.contracts.monitor.MonitorJournal.TheImpl.{ghosts}
use Rattle.ra_monitor.specs.Monitor.{MonitorEntry}
use Rattle.ra_ticket.specs.declared.pass.Pass.{Pass}
use Rattle.ra_ticket.specs.Passes as pass
use Rattle.ra_ticket.specs.declared.fault.CallFault.{CallFault}
use Rattle.ra_ticket.specs.Callers.{pass_of, lock_of, AreOfOneLock}
use Rattle.ra_desk.specs.declared.reporter.DeskReporter.{DeskReporter}
use Rattle.ra_desk.specs.declared.reporter.DeskCloseFault.{DeskCloseFault}
use Rattle.ra_desk.specs.declared.reporter.DeskCloseFault.TheVariants.{Shared, Unsettled}

abbrev pub number_of : DeskReporter → ℕ
number_of r = pass.number_of (pass_of r.caller)

abbrev pub setup_of : DeskReporter → Setup
setup_of r = r.setup

-- the log as far as the reporter has seen it
abbrev pub log_of : DeskReporter → List MonitorEntry
log_of r = pass.seen (pass_of r.caller)

-- how many tickets of the desk are drawn at least, as far as the reporter knows; below, how many are served
abbrev pub drawn_of : DeskReporter → ℕ
drawn_of r = pass.next_reached (pass_of r.caller)

abbrev pub served_of : DeskReporter → ℕ
served_of r = pass.serving_reached (pass_of r.caller)

-- its own reports
abbrev pub reports_of : DeskReporter → List MonitorEntry
reports_of r = entries_of (number_of r) (log_of r)

-- the passes of reporters
abbrev pub passes_of : List DeskReporter → List (Pass Monitor Command Reply Setup ghosts)
passes_of reporters = map (λ r. pass_of r.caller) reporters

-- holds if s is the same reporter of the same desk, and has seen no less
pub record IsSameReporter (r s : DeskReporter) : Type 0 where
  pub number : number_of s ≡ number_of r
  pub desk : (pass_of s.caller).seat.table_id ≡ (pass_of r.caller).seat.table_id
  pub setup : setup_of s ≡ setup_of r
  pub seen_more : BeginsWith (log_of s) (log_of r)
  pub drawn : drawn_of r ≤ drawn_of s
  pub served : served_of r ≤ served_of s

-- the entries of a log without the last one
abbrev pub before_last : List MonitorEntry → List MonitorEntry
before_last log = take (length log - 1) log

-- holds if the last entry is this report, with this reply
abbrev pub EndsWith : List MonitorEntry → ℕ → Command → Reply → Type 0
EndsWith log number command reply =
    (ticket : ℕ) × (log ≡ before_last log ++ entry number ticket command reply ∷ [])

-- holds if what the reporter has seen ends with this report, after all that it had seen before
pub record IsLogged (r s : DeskReporter) (command : Command) (reply : Reply) : Type 0 where
  pub last : EndsWith (log_of s) (number_of r) command reply
  pub not_before : BeginsWith (before_last (log_of s)) (log_of r)

-- holds if the reporter's own reports are those before, followed by this one
abbrev pub IsReportedOnce : DeskReporter → DeskReporter → Command → Reply → Type 0
IsReportedOnce old new command reply =
    (ticket : ℕ) × (reports_of new ≡ reports_of old ++ entry (number_of old) ticket command reply ∷ [])

-- holds if `Busy` reports two numbers, the second above the first: what the reporter has learned of the tickets
abbrev pub IsFoundBusy : DeskReporter → CallFault Command → Type 0
IsFoundBusy r fault = pass.IsFoundBusy (pass_of r.caller) fault

-- holds if, of two that met, this one knows of the tickets exactly what either knew
abbrev pub KnowsWhatEitherKnew : DeskReporter → DeskReporter → DeskReporter → Type 0
KnowsWhatEitherKnew r s met = pass.KnowsWhatEitherKnew (pass_of r.caller) (pass_of s.caller) (pass_of met.caller)

-- holds if both report to one desk
abbrev pub AreOfOneDesk : DeskReporter → DeskReporter → Type 0
AreOfOneDesk r s = AreOfOneLock (passes_of (r ∷ s ∷ []))

-- holds if the reporter that `Shared` returns is this one, at its desk
abbrev pub HandsBack : DeskCloseFault → DeskReporter → Type 0
HandsBack (Shared back) r =
    (pass_of back.caller ≡ pass_of r.caller) × (lock_of back.caller ≡ lock_of r.caller) × (setup_of back ≡ setup_of r)
HandsBack (Unsettled words) r = Unit {0}

-- holds if `Unsettled` reports two numbers, the first below the second, each at least the one that the reporter knew
abbrev pub TellsUnsettled : DeskCloseFault → DeskReporter → Type 0
TellsUnsettled (Shared back) r = Unit {0}
TellsUnsettled (Unsettled words) r =
    (words.serving < words.next) × (served_of r ≤ words.serving) × (drawn_of r ≤ words.next)
