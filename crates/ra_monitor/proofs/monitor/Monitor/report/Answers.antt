use Rattle.std.proofs.Common.{◌∙◌, ap, subst}
use Rattle.ra_labels.specs.Records.{label_count}
use Rattle.ra_theorems.specs.AnyOrder.{is_of_any_order}
use Rattle.ra_monitor.specs.Monitor.{Monitor, records_of, IsFinalFault}
use Rattle.ra_monitor.proofs.Legal.{final_kept}
use Rattle.ra_monitor.proofs.monitor.Monitor.report.Goals as goal

pub returns-clause-labels : goal.returns-clause-labels
returns-clause-labels c =
    rw c.deref-parts.ensures (c.self.invariant.history.labels
    ∙ ap (λ (l : Monitor). label_count (records_of l.setup l.log)) c.self.view_is)

pub returns-clause-final_fault : goal.returns-clause-final_fault
returns-clause-final_fault c = λ any.
    let m = c.self.inside.parts.value in
    rw c.deref-parts.ensures (subst (λ (l : Monitor). IsFinalFault l.setup l.log m.history.fault) c.self.view_is
    (final_kept m.setup m.log.items m.history.fault c.self.invariant.history.fault
    (ap (λ (l : Monitor). is_of_any_order l.setup.kind) c.self.view_is ∙ any)))
