use Rattle.std.proofs.Common.{◌<◌, ◌++◌, [], ◌∷◌, length, sym, ap, ◌∙◌, subst}
use Rattle.std.proofs.lemmas.List.{get_or_default}
use Rattle.ra_list_witness.specs.ListWitness.{no_view}
use Rattle.ra_list_witness.proofs.Views.{kept_by_join}
use Rattle.ra_list_witness.proofs.list_witness.ListWitness.join.Goals as goal

pub invariant_of-self-2 : goal.invariant_of-self-2
invariant_of-self-2 c =
    let views = c.self.inside.views.items in
    let there = subst (λ vs. c.args.from < length vs) (sym (ap (λ v. v.views) c.self.view_is)) c.requires in
    kept_by_join c.self.inside.numbers views c.push.new.self.items c.self.inside.order.order c.self.inside.order.edges
    c.args.from c.self.invariant
    (c.in_ok-push.ensures.items
    ∙ ap (λ v. views ++ v ∷ []) (c.in_ok-view.ensures ∙ c.index.ensures ∙ get_or_default views c.args.from _ no_view there))
