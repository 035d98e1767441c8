use Rattle.std.proofs.Common.{rules, sym, ap, subst, ◌∙◌}
use Rattle.std.specs.Prelude.{Contains}
use Rattle.ra_precedence.specs.Reasons.{AreHeld}
use Rattle.ra_precedence.proofs.HeldLabels.{held_more}
use Rattle.ra_precedence.proofs.reasons.held_by.Goals.{then-pick-conditions+then-contains+in_ok-held_of+in_ok-push, then-pick-conditions+else-contains, else-pick-conditions}
use Rattle.ra_precedence.proofs.reasons.held_by.Goals as goal

pub loop-pick-preserved : goal.loop-pick-preserved
loop-pick-preserved c =
    elim c.if-pick-conditions.branch [
      | then-pick-conditions+then-contains+in_ok-held_of+in_ok-push w ↦
          held_more c.args.conditions.now c.loop-pick.reasons.items c.if-pick-conditions.reasons.items
          w.in_ok-held_of.field-0 (ap (λ v. v.items) w.reasons-is ∙ w.in_ok-push.ensures.items) (
            w.index-conditions-pick.result,
            (_, w.if-pick-conditions.true, sym w.index-conditions-pick.is),
            subst (λ l. Contains w.index-conditions-pick.result.before l) (sym w.in_ok-held_of.ensures.label) (search rules),
            sym w.in_ok-held_of.ensures.after,
          ) c.loop-pick.invariant
      | then-pick-conditions+else-contains w ↦
          subst (λ v. AreHeld c.args.conditions.now v.items) (sym w.reasons-is) c.loop-pick.invariant
      | else-pick-conditions w ↦
          subst (λ v. AreHeld c.args.conditions.now v.items) (sym w.reasons-is) c.loop-pick.invariant
    ]
