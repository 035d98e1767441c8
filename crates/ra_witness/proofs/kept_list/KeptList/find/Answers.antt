use Rattle.std.proofs.Common.{ap, sym, ◌∙◌}
use Rattle.std.proofs.lemmas.Result.{IfOk-weaker}
use Rattle.ra_labels.specs.declared.label.Label.{Label}
use Rattle.ra_witness.proofs.ListCauses.{cause_is}
use Rattle.ra_witness.proofs.kept_list.KeptList.find.Goals as goal

pub returns-clause-cause : goal.returns-clause-cause
returns-clause-cause c = λ initial_replicas records next stands offered.
    IfOk-weaker c.test.result _ _ (λ tested is.
    is ∙ cause_is stands.past initial_replicas records next c.args.label.now stands.is offered c.in-List.op
    (sym (ap (λ (l : Label). l.op) offered.becomes) ∙ c.in-List.is)) (c.test.ensures.cause stands.past stands.stands)
