use Rattle.std.proofs.Common.{sym, subst}
use Rattle.ra_any_order.specs.Situation.{operations_in}
use Rattle.ra_reported.specs.Reported.{reported_in}
use Rattle.ra_another_order.specs.Operations.{AreLabelsOf}
use Rattle.ra_another_order.proofs.ReportedLabels.{labels_reported, kind_reported}
use Rattle.ra_another_order.proofs.possible.possible_answers.Goals as goal

pub returns-clause-possible : goal.returns-clause-possible
returns-clause-possible c =
    let log = c.args.log.now in
    let past = reported_in c.args.kind c.args.replicas log in
    let labels = c.in_ok-labels.labels in
    c.in_ok-found.ensures.possible past (kind_reported c.args.kind c.args.replicas log)
    (subst (λ operations. AreLabelsOf labels.tracker.now (operations_in operations) past) (sym c.as_slice.ensures.value)
    (labels_reported c.args.kind c.args.replicas log labels c.in_ok-labels.ensures))
