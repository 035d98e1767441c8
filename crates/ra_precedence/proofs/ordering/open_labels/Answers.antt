use Rattle.std.proofs.Common.{◌≡◌, ◌∙◌, ◌+◌, length, ap, sym, subst, arith}
use Rattle.ra_precedence.proofs.OpenLabels.{AreOpenBelow, none_open, open_more, open_same}
use Rattle.ra_precedence.proofs.Releases.{listed_within}
use Rattle.ra_precedence.proofs.ordering.open_labels.Goals as goal
use Rattle.ra_precedence.proofs.ordering.open_labels.Goals.{then-number-gt0+in_ok-push, else-number-gt0}

pub loop-label-init : goal.loop-label-init
loop-label-init c = subst (AreOpenBelow c.args.numbers.now 0) (sym c.new-labels.ensures.items) (none_open c.args.numbers.now)

pub loop-label-preserved : goal.loop-label-preserved
loop-label-preserved c = elim c.if-number-gt0.branch [
  | then-number-gt0+in_ok-push w ↦
      open_more c.args.numbers.now c.loop-label.labels.items c.if-number-gt0.labels.items c.loop-label.label
      c.loop-label.invariant w.if-number-gt0.true (ap (λ v. v.items) w.labels-is ∙ w.in_ok-push.ensures.items)
  | else-number-gt0 w ↦
      subst (λ v. AreOpenBelow c.args.numbers.now (c.loop-label.label + 1) v.items) (sym w.labels-is)
      (open_same c.args.numbers.now c.loop-label.labels.items c.loop-label.label c.loop-label.invariant w.if-number-gt0.false)
]

pub returns : goal.returns
returns c = λ b.
    let all : c.loop-label.label ≡ length c.args.numbers.now =
    let low = c.loop-label.auto.label-end in let high = c.loop-label-test.false in omega (arith, low, high) in (
      (λ there. ((c.loop-label.invariant b).0 there).1),
      (λ some. (c.loop-label.invariant b).1 (let low = listed_within c.args.numbers.now b some in omega (arith, low, all), some)),
    )
