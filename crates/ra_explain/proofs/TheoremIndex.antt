-- Index of the theorems on a log with a fault, each under the name of the function whose clause it is. Other crates use
-- these names, and no other file of this directory.
use Rattle.std.proofs.Common.{◌≡◌, List, ◌∷◌, [], Some, None, sym, ap, ◌∙◌}
use Rattle.std.specs.List.{slice_get}
use Rattle.std.proofs.lemmas.List.{append-nil}
use Rattle.ra_labels.specs.declared.command.Command.{Command}
use Rattle.ra_labels.specs.declared.reply.Fault.{Fault}
use Rattle.ra_labels.specs.Records.{Records, label_count}
use Rattle.ra_labels.specs.Fault.{fault_of}
use Rattle.ra_labels.specs.HistorySoFar.{NextOperation, operate}
use Rattle.ra_monitor.specs.declared.setup.Setup.{Setup}
use Rattle.ra_monitor.specs.Monitor.{MonitorEntry, records_of, fault_in, IsLegalLog}
use Rattle.ra_explain.specs.Places.{places_in, command_at}
use Rattle.ra_explain.proofs.Commands.{operations_in, command_found, newest_stands}
use Rattle.ra_explain.proofs.Faults.{log_ends}

pub records_end_at_fault : (setup : Setup) (log : List MonitorEntry) (fault : Fault)
    → fault_in setup log ≡ Some fault → (before : Records) × (last : NextOperation)
    × (records_of setup log ≡ operate last ∷ before) × (fault.label ≡ label_count before)
    × (fault_of setup.kind before ≡ None)
records_end_at_fault setup log fault is =
    let (before, last, at) = log_ends setup log fault is in (before, last, at.records_are, at.label, at.sound)

pub fault_label_found : (setup : Setup) (log : List MonitorEntry) (fault : Fault) (before : Records)
    (last : NextOperation) → IsLegalLog setup log → fault_in setup log ≡ Some fault
    → records_of setup log ≡ operate last ∷ before
    → command_at log (places_in log) fault.label ≡ Some (operate last)
fault_label_found setup log fault before last legal is are =
    let (older, newest, at) = log_ends setup log fault is in
    let both : operate newest ∷ older ≡ operate last ∷ before = sym at.records_are ∙ are in
    let behind : older ≡ before = cc both in
    let same : fault.label ≡ label_count before = at.label ∙ ap label_count behind in
    command_found setup log legal fault.label
    ∙ ap (λ (rs : Records). slice_get (operations_in rs) fault.label) are
    ∙ ap (slice_get (operations_in (operate last ∷ before))) same
    ∙ ap (λ (cs : List Command). slice_get cs (label_count before))
    (sym (append-nil (operations_in (operate last ∷ before))))
    ∙ newest_stands before last []
