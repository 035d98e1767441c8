use Rattle.std.proofs.Common.{get_or, subst}
use Rattle.std.proofs.lemmas.Bool.{ltb-true}
use Rattle.ra_labels.specs.Edges.{IsBefore}
use Rattle.ra_rga_precedence.proofs.Places.{before_at}
use Rattle.ra_rga_precedence.proofs.turned.comes_before.Goals as goal

pub returns-in-Some-Some : goal.returns-in-Some-Some
returns-in-Some-Some c = λ is.
    let list = c.args.list.now in
    let (first_low, first) = c.in-Some-Some.ensures in
    let (second_low, second) = c.in-Some-Some.ensures' in
    subst (IsBefore list c.args.first) second
    (subst (λ x. IsBefore list x (get_or list c.in-Some-Some.later 0)) first
    (before_at list c.in-Some-Some.place c.in-Some-Some.later (ltb-true c.in-Some-Some.place c.in-Some-Some.later is)
    second_low))
