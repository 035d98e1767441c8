use Rattle.std.proofs.Common.{◌≡◌, ℕ, true, false, get_or, sym, subst, ◌∙◌}
use Rattle.std.specs.Prelude.{Contains}
use Rattle.std.proofs.lemmas.List.{take_all}
use Rattle.ra_precedence.proofs.HeldLabels.{of_next}
use Rattle.ra_precedence.proofs.certificates.are_marked.Goals as goal

pub loop-label-preserved : goal.loop-label-preserved
loop-label-preserved c =
    of_next (λ (x : ℕ). get_or c.args.marks.now x false ≡ true) c.args.labels.now c.loop-label.label-index 0
    c.loop-label-test.true c.loop-label.invariant (sym c.is_marked.ensures ∙ c.if-not-is_marked.false)

pub returns : goal.returns
returns c = λ _ label there. c.loop-label.invariant label (subst (λ labels. Contains labels label)
    (sym (take_all c.loop-label.label-index c.args.labels.now c.loop-label-test.false)) there)
