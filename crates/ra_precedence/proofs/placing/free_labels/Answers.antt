use Rattle.std.proofs.Common.{◌∙◌, ap, arith}
use Rattle.ra_precedence.specs.Placing.{times}
use Rattle.ra_precedence.proofs.FreeLabels.{free_below, none_free, free_more, free_same}
use Rattle.ra_precedence.proofs.placing.free_labels.Goals as goal
use Rattle.ra_precedence.proofs.placing.free_labels.Goals.{then-number-eq0+in_ok-push, else-number-eq0}

pub loop-label-init : goal.loop-label-init
loop-label-init c = λ b. ap (times b) c.new-labels.ensures.items ∙ none_free c.args.numbers.now b

pub loop-label-preserved : goal.loop-label-preserved
loop-label-preserved c = elim c.if-number-eq0.branch [
  | then-number-eq0+in_ok-push w ↦
      free_more c.args.numbers.now c.loop-label.labels.items c.if-number-eq0.labels.items c.loop-label.label
      c.loop-label.invariant w.if-number-eq0.true (ap (λ v. v.items) w.labels-is ∙ w.in_ok-push.ensures.items)
  | else-number-eq0 w ↦ λ b.
      ap (λ v. times b v.items) w.labels-is
      ∙ free_same c.args.numbers.now c.loop-label.labels.items c.loop-label.label c.loop-label.invariant
      w.if-number-eq0.false b
]

pub returns : goal.returns
returns c = λ b. c.loop-label.invariant b ∙ ap (λ n. free_below c.args.numbers.now n b)
    (let low = c.loop-label.auto.label-end in let high = c.loop-label-test.false in omega (arith, low, high))
