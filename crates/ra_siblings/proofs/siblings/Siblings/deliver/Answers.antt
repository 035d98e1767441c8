use Rattle.std.proofs.Common.{◌≡◌, ◌<◌, [], get_or, length, set, sym, subst, arith}
use Rattle.std.specs.Prelude.{◌↔◌, ◌⊎◌, Contains}
use Rattle.std.proofs.lemmas.List.{get_or-set_same}
use Rattle.std.proofs.lemmas.Grind.{common_steps}
use Rattle.ra_siblings.specs.Kept.{Kept, siblings_of, issued_at}
use Rattle.ra_siblings.proofs.siblings.Siblings.deliver.Goals as goal

pub returns-clause-siblings : goal.returns-clause-siblings
returns-clause-siblings c = λ m.
    let kept : Kept = c.args.self.now in
    let label = c.args.label in
    let siblings = c.in_ok-siblings.siblings in
    let replicas = c.self.inside.replicas.items in
    let before : c.index-2.result.now ≡ siblings_of kept c.args.replica = grind (arith, common_steps) in
    let issued : c.index.result.now.replaced ≡ (issued_at kept label).replaced = grind (arith, common_steps) in
    let short : c.args.replica < length replicas = grind (arith, common_steps) in
    let after : get_or (set replicas c.args.replica siblings) c.args.replica [] ≡ siblings =
    get_or-set_same replicas c.args.replica siblings [] short in
    let replaced = (issued_at kept label).replaced in
    subst (λ ys. Contains ys m ↔ ((label ≡ m) ⊎ (Contains (siblings_of kept c.args.replica) m × (¬ Contains replaced m))))
    (sym after)
    (subst (λ xs. Contains siblings m ↔ ((label ≡ m) ⊎ (Contains xs m × (¬ Contains replaced m)))) before
    (subst (λ rs. Contains siblings m ↔ ((label ≡ m) ⊎ (Contains c.index-2.result.now m × (¬ Contains rs m)))) issued
    (c.in_ok-siblings.ensures m)))
