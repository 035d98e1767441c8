use Rattle.std.proofs.Common.{sym, ap, ◌∙◌, arith}
use Rattle.ra_monitor.specs.UsedKeys.{refusal_by}
use Rattle.ra_monitor.proofs.Answered.{by_none, by_misfit, by_taken}
use Rattle.ra_monitor.proofs.history.TrackedHistory.refusal_of.Goals as goal

pub returns-then-replica-self : goal.returns-then-replica-self
returns-then-replica-self c = λ past next taken replicas by misfit_is brings.
    sym (by_none past next (omega (arith, replicas, by, c.if-replica-self.true)))

pub returns-in-Some : goal.returns-in-Some
returns-in-Some c = λ past next taken replicas by misfit_is brings.
    sym (by_misfit past next c.in-Some.refusal (omega (arith, replicas, by, c.if-replica-self.false))
    (sym misfit_is ∙ c.in-Some.is))

pub returns-in-None : goal.returns-in-None
returns-in-None c = λ past next taken replicas by misfit_is brings.
    c.refusal_of.ensures past.records taken
    ∙ ap (refusal_by past.records) brings
    ∙ sym (by_taken past next (omega (arith, replicas, by, c.if-replica-self.false))
    (sym misfit_is ∙ c.in-None.is))
