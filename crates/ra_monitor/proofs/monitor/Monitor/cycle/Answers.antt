use Rattle.std.proofs.Common.{sym, ap, ◌∙◌, subst}
use Rattle.ra_labels.specs.Edges.{IsCycle}
use Rattle.ra_labels.specs.ListHistory.{required_edges}
use Rattle.ra_monitor.specs.declared.parts.Parts.{Parts}
use Rattle.ra_monitor.specs.Monitor.{Monitor, records_of, IsOrderFault}
use Rattle.ra_monitor.proofs.Cycles.{cycle_shown}
use Rattle.ra_monitor.proofs.monitor.Monitor.cycle.Goals as goal

pub returns-in-Some : goal.returns-in-Some
returns-in-Some c =
    let m = c.self.inside.parts.value in
    let history = c.self.invariant.history in
    let is = sym (ap (λ (p : Parts). p.history.cycle) c.deref.ensures) ∙ c.in-Some.is in
    let known = rw is at
    (cycle_shown m.setup.kind (records_of m.setup m.log.items) m.history.fault m.history.cycle history.fault history.cycle) in
    record {
      shows = rw c.as_slice.ensures.value (subst (λ (l : Monitor). IsOrderFault l.setup l.log
          × IsCycle (required_edges (records_of l.setup l.log)) c.in-Some.cycle.items) c.self.view_is known);
    }

pub returns-in-None : goal.returns-in-None
returns-in-None c =
    let m = c.self.inside.parts.value in
    let history = c.self.invariant.history in
    let is = sym (ap (λ (p : Parts). p.history.cycle) c.deref.ensures) ∙ c.in-None.is in
    let known = rw is at
    (cycle_shown m.setup.kind (records_of m.setup m.log.items) m.history.fault m.history.cycle history.fault history.cycle) in
    record { shows = subst (λ (l : Monitor). ¬ IsOrderFault l.setup l.log) c.self.view_is known }
