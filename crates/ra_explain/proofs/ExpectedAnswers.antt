-- Lemmas on the expected answer at the fault: the command of the label in the log determines it.
use Rattle.std.proofs.Common.{◌≡◌, List, ◌∷◌, Option, Some, None, sym, ap, ◌∙◌}
use Rattle.std.specs.Prelude.{option_and_then}
use Rattle.std.proofs.lemmas.Bool.{cond-true}
use Rattle.ra_labels.specs.declared.reply.Cause.TheVariants.{Query}
use Rattle.ra_labels.specs.declared.reply.Fault.{Fault}
use Rattle.ra_labels.specs.Records.{Records}
use Rattle.ra_labels.specs.Specification.{State, state_after}
use Rattle.ra_labels.specs.Insertion.{delivered_updates}
use Rattle.ra_labels.specs.HistorySoFar.{operate}
use Rattle.ra_monitor.specs.declared.setup.Setup.{Setup}
use Rattle.ra_monitor.specs.Monitor.{MonitorEntry, records_of, fault_in, IsLegalLog}
use Rattle.ra_explain.specs.Places.{places_in, command_at}
use Rattle.ra_explain.specs.Expected.{is_query, expected_in, expected_at, expected_where, expected_answer_in, expected_by}
use Rattle.ra_explain.proofs.Faults.{log_ends}
use Rattle.ra_explain.proofs.TheoremIndex.{fault_label_found}

pub told_at_fault : (setup : Setup) (log : List MonitorEntry) (fault : Fault) → IsLegalLog setup log
    → fault_in setup log ≡ Some fault → fault.cause ≡ Query
    → option_and_then (expected_by setup log) (command_at log (places_in log) fault.label) ≡ expected_answer_in setup log
told_at_fault setup log fault legal is by_query =
    let (before, last, at) = log_ends setup log fault is in
    let newest = expected_at setup.kind (operate last ∷ before) in
    ap (option_and_then (expected_by setup log))
    (fault_label_found setup log fault before last legal is at.records_are)
    ∙ ap (λ (records : Records). option_and_then (λ (state : State). expected_in state last.op)
    (state_after setup.kind (delivered_updates setup.kind records last.by))) at.before_is
    ∙ sym (ap (λ (o : Option Fault). expected_where setup.kind (records_of setup log) o) is
    ∙ ap (λ (records : Records). expected_where setup.kind records (Some fault)) at.records_are
    ∙ cond-true (is_query fault.cause) newest None (ap is_query by_query))
