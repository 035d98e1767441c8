-- Lemmas on the command of the violating label in the log.
use Rattle.std.proofs.Common.{◌≡◌, ℕ, List, Option, Some, None, refl}
use Rattle.std.specs.Prelude.{option_map, option_and_then}
use Rattle.std.specs.List.{slice_get}
use Rattle.ra_labels.specs.declared.command.Command.{Command}
use Rattle.ra_labels.specs.declared.reply.Fault.{Fault}
use Rattle.ra_labels.specs.HistorySoFar.{NextOperation, operate}
use Rattle.ra_monitor.specs.declared.setup.Setup.{Setup}
use Rattle.ra_monitor.specs.Monitor.{MonitorEntry, fault_in, IsLegalLog}
use Rattle.ra_explain.specs.Places.{places_in, command_at}
use Rattle.ra_explain.proofs.Faults.{log_ends}
use Rattle.ra_explain.proofs.TheoremIndex.{fault_label_found}

-- the entry at a position, if it has this command
abbrev HasEntry : List MonitorEntry → Command → Option ℕ → Type 0
HasEntry log command at = (place : ℕ) × (entry : MonitorEntry) × (at ≡ Some place)
    × (slice_get log place ≡ Some entry) × (entry.command ≡ command)

entry_is : (command : Command) (o : Option MonitorEntry) → option_map (λ e. e.command) o ≡ Some command
    → (entry : MonitorEntry) × (o ≡ Some entry) × (entry.command ≡ command)
entry_is command None is = absurd (cc is)
entry_is command (Some entry) is = (entry, refl, cc is)

place_is : (log : List MonitorEntry) (command : Command) (at : Option ℕ)
    → option_map (λ e. e.command) (option_and_then (slice_get log) at) ≡ Some command → HasEntry log command at
place_is log command None is = absurd (cc is)
place_is log command (Some place) is =
    let (entry, found, same) = entry_is command (slice_get log place) is in (place, entry, refl, found, same)

-- the log has the command of the violating label, which is an operation
pub record IsThere (setup : Setup) (log : List MonitorEntry) (fault : Fault) : Type 0 where
  pub next : NextOperation
  pub place : ℕ
  pub entry : MonitorEntry
  pub at : slice_get (places_in log) fault.label ≡ Some place
  pub found : slice_get log place ≡ Some entry
  pub command : entry.command ≡ operate next
  pub label : command_at log (places_in log) fault.label ≡ Some (operate next)

pub is_there : (setup : Setup) (log : List MonitorEntry) (fault : Fault) → IsLegalLog setup log
    → fault_in setup log ≡ Some fault → IsThere setup log fault
is_there setup log fault legal is =
    let (before, last, ends) = log_ends setup log fault is in
    let label = fault_label_found setup log fault before last legal is ends.records_are in
    let (place, entry, at, found, command) =
    place_is log (operate last) (slice_get (places_in log) fault.label) label in
    record {
      next = last;
      place = place;
      entry = entry;
      at = at;
      found = found;
      command = command;
      label = label;
    }
