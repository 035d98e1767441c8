use Rattle.std.proofs.Common.{refl, sym, subst}
use Rattle.std.specs.Prelude.{Contains}
use Rattle.std.proofs.lemmas.List.{take_all}
use Rattle.ra_precedence.specs.Conditions.{Meets}
use Rattle.ra_precedence.proofs.HeldLabels.{of_next}
use Rattle.ra_precedence.proofs.checking.meets_all.Goals as goal

pub loop-condition-preserved : goal.loop-condition-preserved
loop-condition-preserved c = λ order are.
    of_next (Meets order) c.args.conditions.now c.loop-condition.condition-index c.condition-item.result
    c.loop-condition-test.true (c.loop-condition.invariant order are)
    (subst (Meets order) c.condition-item.is ((c.meets.ensures order are).0 c.if-not-meets.false))

pub returns : goal.returns
returns c = λ order are. (
  (λ _ condition there. c.loop-condition.invariant order are condition (subst (λ cs. Contains cs condition)
      (sym (take_all c.loop-condition.condition-index c.args.conditions.now c.loop-condition-test.false)) there)),
  (λ _. refl),
)
