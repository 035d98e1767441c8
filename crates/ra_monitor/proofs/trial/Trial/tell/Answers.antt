use Rattle.std.proofs.Common.{◌<◌, [], refl, arith}
use Rattle.std.proofs.lemmas.Result.{IfOk-weaker}
use Rattle.ra_labels.specs.Answer.{records_after_all}
use Rattle.ra_visibility.specs.declared.limits.TheConstants.{MOST_LABELS}
use Rattle.ra_monitor.proofs.Trials.{told_one}
use Rattle.ra_monitor.proofs.trial.Trial.tell.Goals as goal

pub returns-clause-told : goal.returns-clause-told
returns-clause-told c = λ commands is.
    let old = c.args.self.now in
    let setup = old.setup in
    let room : old.history.labels < MOST_LABELS = omega (arith, is.few, c.if-self-eq-MOST_LABELS.false) in
    IfOk-weaker c.answer-answer.result _ _
    (λ reply takes. told_one old (record { setup = setup; history = c.answer-answer.new.self }) commands c.args.command
    reply is room takes refl c.answer-answer.ensures.one)
    (c.answer-answer.ensures.taken (records_after_all setup.kind setup.replicas [] commands) is.history)
