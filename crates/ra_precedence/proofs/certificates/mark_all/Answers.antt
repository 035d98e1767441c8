use Rattle.std.proofs.Common.{ap, subst}
use Rattle.std.proofs.lemmas.List.{take_all}
use Rattle.ra_precedence.specs.Certificates.{AreAmong}
use Rattle.ra_precedence.proofs.HeldLabels.{one_marked, none_marked}
use Rattle.ra_precedence.proofs.certificates.mark_all.Goals.{then-at-len, else-at-len}
use Rattle.ra_precedence.proofs.certificates.mark_all.Goals as goal

pub loop-label-preserved : goal.loop-label-preserved
loop-label-preserved c =
    let i = c.loop-label.label-index in
    elim c.if-at-len.branch [
      | then-at-len w ↦ one_marked c.args.labels.now c.args.marks.now.items c.loop-label.marks.items c.if-at-len.marks.items i
          c.loop-label-test.true (ap (λ v. v.items) w.marks-is) c.loop-label.invariant
      | else-at-len w ↦ none_marked c.args.labels.now c.args.marks.now.items c.loop-label.marks.items c.if-at-len.marks.items i
          c.loop-label-test.true (ap (λ v. v.items) w.marks-is) c.loop-label.invariant
    ]

pub returns : goal.returns
returns c = subst (λ labels. AreAmong labels c.args.marks.now.items c.loop-label.marks.items)
    (take_all c.loop-label.label-index c.args.labels.now c.loop-label-test.false) c.loop-label.invariant
