use Rattle.std.proofs.Common.{◌≡◌, ◌<◌, ◌-◌, get_or, length, ap, ◌∙◌, subst, arith}
use Rattle.std.proofs.lemmas.Bool.{ltb-true}
use Rattle.ra_bench_replicas.proofs.RisingLists.{rises-last}
use Rattle.ra_bench_replicas.proofs.rising.may_follow.Goals as goal

pub returns-in-Some : goal.returns-in-Some
returns-in-Some c = λ above.
    let list = c.args.list.now in
    let found : c.in-Some.last.now ≡ get_or list (length list - 1) 0 = c.in-Some.ensures.item.4 (omega arith) 0 in
    let less = ltb-true c.in-Some.last.now c.args.element above in
    rises-last list c.args.element c.requires (λ k last.
    let place : length list - 1 ≡ k = omega arith in
    subst (λ x. x < c.args.element) (found ∙ ap (λ i. get_or list i 0) place) less)
