use Rattle.std.proofs.Common.{◌≡◌, ◌<◌, length, Some, sym, ap, ◌∙◌, subst, arith}
use Rattle.ra_labels.specs.Fault.{fault_of}
use Rattle.ra_theorems.proofs.TheoremIndex.{fault_is_least_label}
use Rattle.ra_monitor.specs.declared.parts.Parts.{Parts}
use Rattle.ra_monitor.specs.Monitor.{Monitor, records_of}
use Rattle.ra_monitor.proofs.monitor.MonitorJournal.fault.Goals as goal

-- the fault's label is an existing label, and the log has at least as many entries as labels
pub returns-in-Some-clause-below : goal.returns-in-Some-clause-below
returns-in-Some-clause-below c =
    let m = c.self.inside.parts.value in
    let records = records_of m.setup m.log.items in
    let is = sym (ap (λ (p : Parts). p.history.fault) c.deref.ensures) ∙ c.in-Some.is in
    let at : fault_of m.setup.kind records ≡ Some c.in-Some.fault = sym c.self.invariant.history.fault ∙ is in
    let least = (fault_is_least_label m.setup.kind records c.in-Some.fault).0 at in
    let below : c.in-Some.fault.label < length m.log.items = omega (arith, least.there, c.self.invariant.history.labels, c.self.invariant.labels) in
    subst (λ (l : Monitor). c.in-Some.fault.label < length l.log) c.self.view_is below
