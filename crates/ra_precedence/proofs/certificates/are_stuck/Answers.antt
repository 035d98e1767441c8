use Rattle.std.proofs.Common.{◌≡◌, true, false, get_or, length, sym, subst, ◌∙◌, inl, inr, arith}
use Rattle.std.proofs.lemmas.Bool.{false≢true, cases_eq, eq-eqb}
use Rattle.ra_precedence.specs.Certificates.{AreHeldBack}
use Rattle.ra_precedence.proofs.HeldLabels.{set_stuck}
use Rattle.ra_precedence.proofs.certificates.are_stuck.Goals as goal

pub returns : goal.returns
returns c = λ is.
    set_stuck c.args.conditions.now c.args.labels.now c.mark_all.new.marks.items c.in_ok-held.held.items
    (elim (cases_eq (length c.args.labels.now) 0) [
      | inl none ↦ absurd (false≢true (c.if-is_empty.ensures ∙ eq-eqb (length c.args.labels.now) 0 none))
      | inr some ↦ omega (arith, some)
    ])
    (λ label marked. elim (c.mark_all.ensures label marked) [
      | inl before ↦ absurd (false≢true (sym (c.in_ok-marks.ensures label) ∙ before))
      | inr there ↦ there
    ])
    (subst (λ ms. AreHeldBack c.args.conditions.now ms c.in_ok-held.held.items) c.deref.ensures.value c.in_ok-held.ensures)
    (λ label there. subst (λ ms. get_or ms label false ≡ true) c.deref-2.ensures.value (c.are_marked.ensures is label there))
