use Rattle.std.proofs.Common.{ap, ◌∙◌}
use Rattle.ra_labels.specs.Visibility.{has_delivered}
use Rattle.ra_monitor.specs.Monitor.{Monitor, records_of}
use Rattle.ra_monitor.specs.History.{history_in}
use Rattle.ra_monitor.proofs.monitor.Monitor.has_delivered.Goals as goal

pub returns : goal.returns
returns c =
    let m = c.self.inside.parts.value in
    c.has_delivered.ensures (history_in m.setup (records_of m.setup m.log.items)) (rw c.deref.ensures c.self.invariant.history)
    ∙ ap (λ (l : Monitor). has_delivered (records_of l.setup l.log) c.args.replica c.args.label) c.self.view_is
