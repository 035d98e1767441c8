use Rattle.std.proofs.Common.{sym, subst}
use Rattle.std.proofs.lemmas.List.{take_all}
use Rattle.std.proofs.lemmas.Result.{IfOk-weaker}
use Rattle.std.specs.Prelude.{IfSome}
use Rattle.ra_any_order.specs.Situation.{operations_in}
use Rattle.ra_reported.specs.Reported.{reported_in}
use Rattle.ra_another_order.specs.Answers.{IsAnswer}
use Rattle.ra_another_order.specs.Operations.{AreLabelsOf}
use Rattle.ra_another_order.proofs.ReportedLabels.{labels_reported, kind_reported}
use Rattle.ra_another_order.proofs.opinion.answer_up_to.Goals as goal

pub returns-else-end-log-clause-answer : goal.returns-else-end-log-clause-answer
returns-else-end-log-clause-answer c =
    let kind = c.args.setup.now.kind in
    let replicas = c.args.setup.now.replicas in
    let log = c.args.log.now in
    let labels = c.args.labels.now in
    let whole = take_all c.args.end log c.if-end-log.false in
    let past = reported_in kind replicas log in
    IfOk-weaker c.answer_by_kind.result _ _
    (λ answer all. subst (λ l. IfSome answer (IsAnswer kind (reported_in kind replicas l).records)) (sym whole)
    (all past (kind_reported kind replicas log)
    (subst (λ operations. AreLabelsOf labels.tracker.now (operations_in operations) past) (sym c.as_slice.ensures.value)
    (labels_reported kind replicas log labels c.requires))))
    c.answer_by_kind.ensures.answer
