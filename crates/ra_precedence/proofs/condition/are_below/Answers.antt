use Rattle.std.proofs.Common.{ℕ, ◌<◌, subst}
use Rattle.std.specs.Prelude.{Contains}
use Rattle.std.proofs.lemmas.List.{take_all}
use Rattle.ra_precedence.proofs.NamedBelow.{below_more}
use Rattle.ra_precedence.proofs.condition.are_below.Goals as goal

pub loop-label-preserved : goal.loop-label-preserved
loop-label-preserved c =
    below_more c.args.labels.now c.args.count c.loop-label.label-index c.loop-label-test.true c.if-label-count.false
    c.loop-label.invariant

pub returns : goal.returns
returns c = λ _. subst (λ labels. (b : ℕ) → Contains labels b → b < c.args.count)
    (take_all c.loop-label.label-index c.args.labels.now c.loop-label-test.false) c.loop-label.invariant
