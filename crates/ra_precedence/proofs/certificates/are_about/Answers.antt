use Rattle.std.proofs.Common.{◌≡◌, ◌∙◌, true, false, get_or, sym, subst, inl, inr}
use Rattle.std.specs.Prelude.{Contains}
use Rattle.std.proofs.lemmas.Bool.{false≢true}
use Rattle.std.proofs.lemmas.List.{take_all}
use Rattle.ra_precedence.specs.declared.reasons.Held.{Held}
use Rattle.ra_precedence.proofs.HeldLabels.{of_next}
use Rattle.ra_precedence.proofs.certificates.are_about.Goals as goal

pub loop-held-preserved : goal.loop-held-preserved
loop-held-preserved c =
    of_next (λ (held : Held). get_or c.mark_all.new.marks.items held.label false ≡ true) c.args.reasons.now
    c.loop-held.held-index c.held-item.result c.loop-held-test.true c.loop-held.invariant
    (subst (λ (held : Held). get_or c.mark_all.new.marks.items held.label false ≡ true) c.held-item.is
    (subst (λ ms. get_or ms c.held-item.result.label false ≡ true) c.deref.ensures.value
    (sym c.is_marked.ensures ∙ c.if-not-is_marked.false)))

pub returns : goal.returns
returns c = λ _ held there. elim (c.mark_all.ensures held.label (c.loop-held.invariant held
    (subst (λ hs. Contains hs held) (sym (take_all c.loop-held.held-index c.args.reasons.now c.loop-held-test.false)) there))) [
      | inl before ↦ absurd (false≢true (sym (c.in_ok-marks.ensures held.label) ∙ before))
      | inr among ↦ among
    ]
