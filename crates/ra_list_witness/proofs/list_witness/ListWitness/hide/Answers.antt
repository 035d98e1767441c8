use Rattle.std.proofs.Common.{◌≡◌, ◌<◌, length, set, sym, ap, ◌∙◌, subst}
use Rattle.std.proofs.lemmas.List.{get_or_default}
use Rattle.ra_list_replica.specs.declared.mark.Mark.TheVariants.{Missing, Removed}
use Rattle.ra_list_witness.specs.ListWitness.{no_view, view_at, mark_of}
use Rattle.ra_list_witness.proofs.Kept.{kept_by_hide}
use Rattle.ra_list_witness.proofs.list_witness.ListWitness.hide.Goals as goal

pub invariant_of-self : goal.invariant_of-self
invariant_of-self c =
    let inside = c.self.inside in
    let views = inside.views.items in
    let same = sym (ap (λ v. v.views) c.self.view_is) in
    let there = subst (λ vs. c.args.replica < length vs) same c.requires.replica in
    let had = subst (λ vs. ¬ (mark_of vs c.args.replica c.args.number ≡ Missing)) same c.requires.had in
    let was : c.index_mut.result.now ≡ view_at views c.args.replica =
    c.index_mut.ensures.value ∙ get_or_default views c.args.replica _ no_view there in
    kept_by_hide inside.numbers views inside.order.order inside.order.edges c.args.replica c.args.number c.remove.new.self
    c.self.invariant there had (c.remove.ensures.marks ∙ ap (λ v. set v.marks c.args.number Removed) was)
    (c.remove.ensures.last ∙ ap (λ v. v.last) was)
