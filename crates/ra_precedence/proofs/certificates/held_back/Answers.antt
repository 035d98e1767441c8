use Rattle.std.proofs.Common.{◌≡◌, ℕ, true, false, get_or, sym, ap, subst}
use Rattle.std.specs.Prelude.{Contains}
use Rattle.std.proofs.lemmas.List.{take_all}
use Rattle.ra_precedence.specs.Certificates.{AreAmong, AreHeldBack}
use Rattle.ra_precedence.proofs.HeldLabels.{more_held_back, none_held_back}
use Rattle.ra_precedence.proofs.certificates.held_back.Goals.{then-are_marked, else-are_marked}
use Rattle.ra_precedence.proofs.certificates.held_back.Goals as goal

pub loop-condition-preserved : goal.loop-condition-preserved
loop-condition-preserved c =
    let conditions = c.args.conditions.now in
    let k = c.loop-condition.condition-index in
    let old = c.loop-condition.held.items in
    let now = c.if-are_marked.held.items in
    elim c.if-are_marked.branch [
      | then-are_marked w ↦ more_held_back conditions c.args.marks.now old now k c.loop-condition-test.true
          c.loop-condition.invariant c.condition-item.result c.condition-item.is
          (subst (λ ms. AreAmong c.condition-item.result.before old ms) (sym (ap (λ v. v.items) w.held-is))
          (subst (λ labels. AreAmong labels old w.mark_all.new.marks.items) w.before-then-are_marked.ensures
          w.mark_all.ensures))
          (subst (λ labels. (c' : ℕ) → Contains labels c' → get_or c.args.marks.now c' false ≡ true) c.after.ensures
          (c.are_marked.ensures w.if-are_marked.true))
      | else-are_marked w ↦ none_held_back conditions c.args.marks.now old now k c.loop-condition-test.true
          c.loop-condition.invariant (ap (λ v. v.items) w.held-is)
    ]

pub returns : goal.returns
returns c = subst (λ conditions. AreHeldBack conditions c.args.marks.now c.loop-condition.held.items)
    (take_all c.loop-condition.condition-index c.args.conditions.now c.loop-condition-test.false) c.loop-condition.invariant
