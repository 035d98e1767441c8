use Rattle.std.proofs.Common.{◌≡◌, ℕ, true, false, get_or, sym, subst, ◌∙◌}
use Rattle.std.specs.Prelude.{Contains}
use Rattle.std.proofs.lemmas.List.{take_all}
use Rattle.ra_precedence.specs.declared.reasons.Held.{Held}
use Rattle.ra_precedence.proofs.HeldLabels.{of_next}
use Rattle.ra_precedence.proofs.reasons.are_closed.Goals as goal

pub loop-label-preserved : goal.loop-label-preserved
loop-label-preserved c =
    of_next (λ (x : ℕ). get_or c.in_ok-marks.marks.items x false ≡ true) c.deref-label-items.result.now
    c.loop-label.label-index 0 c.loop-label-test.true c.loop-label.invariant
    (subst (λ ms. get_or ms (get_or c.deref-label-items.result.now c.loop-label.label-index 0) false ≡ true)
    c.deref.ensures.value (sym c.is_marked.ensures ∙ c.if-not-is_marked.false))

pub loop-held-preserved : goal.loop-held-preserved
loop-held-preserved c =
    let item = c.held-item.result in
    let all : (x : ℕ) → Contains item.after.items x → get_or c.in_ok-marks.marks.items x false ≡ true =
    λ x there. c.loop-label.invariant x (subst (λ xs. Contains xs x) (sym
    (take_all c.loop-label.label-index c.deref-label-items.result.now c.loop-label-test.false
    ∙ c.deref-label-items.ensures.value)) there) in
    of_next (λ (held : Held). (x : ℕ) → Contains held.after.items x → get_or c.in_ok-marks.marks.items x false ≡ true)
    c.args.reasons.now c.loop-held.held-index item c.loop-held-test.true c.loop-held.invariant
    (subst (λ (held : Held). (x : ℕ) → Contains held.after.items x → get_or c.in_ok-marks.marks.items x false ≡ true)
    c.held-item.is all)

pub returns : goal.returns
returns c = λ _ held later there is. c.in_ok-marks.ensures later
    (c.loop-held.invariant held (subst (λ hs. Contains hs held)
    (sym (take_all c.loop-held.held-index c.args.reasons.now c.loop-held-test.false)) there) later is)
