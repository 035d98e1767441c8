use Rattle.std.proofs.Common.{sym, ap, subst}
use Rattle.ra_precedence.specs.Reasons.{AreMarked}
use Rattle.ra_precedence.proofs.HeldLabels.{marked_more}
use Rattle.ra_precedence.proofs.reasons.marks_of.Goals.{then-at-len, else-at-len}
use Rattle.ra_precedence.proofs.reasons.marks_of.Goals as goal

pub loop-held-preserved : goal.loop-held-preserved
loop-held-preserved c =
    elim c.if-at-len.branch [
      | then-at-len w ↦ marked_more c.args.reasons.now c.loop-held.marks.items c.if-at-len.marks.items c.held-item.result
          (c.loop-held.held-index, c.loop-held-test.true, sym c.held-item.is) (ap (λ v. v.items) w.marks-is)
          c.loop-held.invariant
      | else-at-len w ↦ subst (λ v. AreMarked c.args.reasons.now v.items) (sym w.marks-is) c.loop-held.invariant
    ]
