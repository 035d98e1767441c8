use Rattle.std.proofs.Common.{◌∙◌, ℕ, ◌<◌, ap, subst}
use Rattle.std.specs.Prelude.{Contains}
use Rattle.std.proofs.lemmas.List.{take_all}
use Rattle.ra_precedence.specs.Conditions.{Condition, no_condition, NameOnlyBelow}
use Rattle.ra_precedence.proofs.NamedBelow.{named_more}
use Rattle.ra_precedence.proofs.ReadAt.{read_at}
use Rattle.ra_precedence.proofs.condition.name_only_below.Goals as goal

pub loop-condition-preserved : goal.loop-condition-preserved
loop-condition-preserved c =
    let conditions = c.args.conditions.now in
    let k = c.loop-condition.condition-index in
    let is = read_at conditions k no_condition c.condition-item.result c.loop-condition-test.true c.condition-item.is in
    named_more conditions c.args.count k c.loop-condition-test.true c.loop-condition.invariant
    (subst (λ labels. (b : ℕ) → Contains labels b → b < c.args.count)
    (c.before-in-loop-condition.ensures ∙ ap (λ (h : Condition). h.before) is) (c.are_below.ensures c.if-not-are_below.false))
    (subst (λ labels. (b : ℕ) → Contains labels b → b < c.args.count)
    (c.after.ensures ∙ ap (λ (h : Condition). h.after) is) (c.are_below-else-not-are_below.ensures c.if-not-are_below-2.false))

pub returns : goal.returns
returns c = λ _. subst (NameOnlyBelow c.args.count)
    (take_all c.loop-condition.condition-index c.args.conditions.now c.loop-condition-test.false) c.loop-condition.invariant
