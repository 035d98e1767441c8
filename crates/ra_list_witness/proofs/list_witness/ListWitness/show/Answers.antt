use Rattle.std.proofs.Common.{◌≡◌, ◌<◌, length, set, sym, ap, ◌∙◌, subst}
use Rattle.std.proofs.lemmas.List.{set-set, get_or_default, get_or-set_same}
use Rattle.ra_list_replica.specs.declared.mark.Mark.TheVariants.{Shown}
use Rattle.ra_list_replica.specs.View.{mark_at}
use Rattle.ra_list_witness.specs.ListWitness.{no_view, view_at, ListWitnessKept}
use Rattle.ra_list_witness.proofs.Kept.{IsShownIn, kept_by_show}
use Rattle.ra_list_witness.proofs.list_witness.ListWitness.show.Goals as goal

pub invariant_of-self-2 : goal.invariant_of-self-2
invariant_of-self-2 c =
    let inside = c.self.inside in
    let views = inside.views.items in
    let at = c.args.replica in
    let there = subst (λ vs. at < length vs) (sym (ap (λ v. v.views) c.self.view_is)) c.requires.replica in
    let known = subst (λ xs. c.args.number < length xs) (sym (ap (λ v. v.elements) c.self.view_is)) c.requires.number in
    let was : c.index_mut.result.now ≡ view_at views at =
    c.index_mut.ensures.value ∙ get_or_default views at _ no_view there in
    let again : c.index_mut-2.result.now ≡ c.reserve.new.self =
    c.index_mut-2.ensures.value ∙ get_or-set_same views at c.reserve.new.self _ there in
    let shown : IsShownIn (view_at views at) c.args.number c.insert.new.self =
    record {
      reserved = c.reserve.new.self.marks;
      room = c.in_ok-reserve.ensures.room;
      same = λ n. c.reserve.ensures.same n ∙ ap (λ v. mark_at v.marks n) was;
      marks = c.insert.ensures.marks ∙ ap (λ v. set v.marks c.args.number Shown) again;
      last = c.insert.ensures.last ∙ ap (λ v. v.last) again ∙ c.reserve.ensures.last ∙ ap (λ v. v.last) was;
    } in
    subst (λ vs. ListWitnessKept inside.numbers vs inside.order.order inside.order.edges)
    (sym (set-set views at c.reserve.new.self c.insert.new.self))
    (kept_by_show inside.numbers views inside.order.order inside.order.edges at c.args.number c.insert.new.self
    c.self.invariant there known shown)
