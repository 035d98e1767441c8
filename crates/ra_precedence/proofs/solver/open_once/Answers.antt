use Rattle.std.proofs.Common.{◌∙◌, ◌+◌, take, ap, sym, subst}
use Rattle.std.proofs.lemmas.List.{take_all}
use Rattle.ra_precedence.specs.Lasts.{AreOpenOnce}
use Rattle.ra_precedence.proofs.DistinctLabels.{one_found, none_found}
use Rattle.ra_precedence.proofs.solver.open_once.Goals as goal
use Rattle.ra_precedence.proofs.solver.open_once.Goals.{then-is_one+in_ok-push, else-is_one}

pub loop-label-preserved : goal.loop-label-preserved
loop-label-preserved c = elim c.if-is_one.branch [
  | then-is_one+in_ok-push w ↦
      one_found c.args.numbers.now c.args.set.now c.loop-label.found.items c.loop-label.label-index c.loop-label-test.true
      c.loop-label.invariant c.if-is_one.found.items (ap (λ v. v.items) w.found-is ∙ w.in_ok-push.ensures.items)
      (sym c.is_one.ensures ∙ w.if-is_one.true)
  | else-is_one w ↦
      subst (λ v. AreOpenOnce c.args.numbers.now (take (c.loop-label.label-index + 1) c.args.set.now) v.items) (sym w.found-is)
      (none_found c.args.numbers.now c.args.set.now c.loop-label.found.items c.loop-label.label-index c.loop-label-test.true
      c.loop-label.invariant (sym c.is_one.ensures ∙ w.if-is_one.false))
]

pub returns : goal.returns
returns c = subst (λ xs. AreOpenOnce c.args.numbers.now xs c.loop-label.found.items)
    (take_all c.loop-label.label-index c.args.set.now c.loop-label-test.false) c.loop-label.invariant
