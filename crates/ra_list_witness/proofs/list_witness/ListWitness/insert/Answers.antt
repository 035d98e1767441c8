use Rattle.std.proofs.Common.{◌≡◌, ℕ, ◌<◌, List, length, get_or, set, refl, sym, ap, ◌∙◌, subst, arith}
use Rattle.std.specs.Prelude.{Contains}
use Rattle.std.proofs.lemmas.List.{set-set, get_or_default, get_or-set_same}
use Rattle.ra_labels.specs.declared.insertion.Insertion.{Insertion}
use Rattle.ra_list_edges.specs.declared.placing.Placement.{Placement}
use Rattle.ra_list_replica.specs.declared.mark.Mark.TheVariants.{Shown}
use Rattle.ra_list_replica.specs.View.{View, mark_at}
use Rattle.ra_list_witness.specs.ListWitness.{no_view, view_at, IsMarked, ListWitnessKept}
use Rattle.ra_labels.specs.Edges.{IsCycle}
use Rattle.ra_labels.specs.Neighborhood.{neighborhood}
use Rattle.ra_list_edges.specs.Pairs.{AddsPairs, with_pairs}
use Rattle.ra_list_witness.specs.Named.{all_named, IsPlacement}
use Rattle.ra_list_witness.proofs.NamedAnswers.{insertion_added, insertion_cycle}
use Rattle.ra_list_witness.proofs.Placements.{neighbor_kept, placed_few}
use Rattle.ra_list_witness.proofs.Kept.{IsShownIn, kept_by_insert, kept_by_rejection, taken_back, marked_by_insert}
use Rattle.ra_list_witness.proofs.list_witness.ListWitness.insert.Goals as goal

-- the replica has a view, before the call and after the edges are added
has_view : (inside now : List View) (replica : ℕ) → inside ≡ now → replica < length now → replica < length inside
has_view inside now replica same there = subst (λ vs. replica < length vs) (sym same) there

was_view : (views : List View) (replica : ℕ) (view : View) → replica < length views → view ≡ get_or views replica view
    → view ≡ view_at views replica
was_view views replica view there is = is ∙ get_or_default views replica view no_view there

-- the numbers are those at which the elements stand before the call
was_placement : (inside now : List ℕ) (insertion : Insertion) (placement : Placement) → inside ≡ now
    → IsPlacement now insertion placement → IsPlacement inside insertion placement
was_placement inside now insertion placement same is = subst (λ xs. IsPlacement xs insertion placement) (sym same) is

is_shown : (c : goal.After-self-in-Ok-None-1)
    → IsShownIn (view_at c.self.inside.views.items c.args.replica) (length c.self.inside.numbers) c.insert.new.self
is_shown c =
    let views = c.self.inside.views.items in
    let placing = was_placement c.self.inside.numbers c.args.self.now.elements c.args.insertion c.args.placement
    (ap (λ v. v.elements) c.self.view_is) c.requires.placement in
    let number = placing.element in
    let there = has_view views c.args.self.now.views c.args.replica (ap (λ v. v.views) c.self.view_is) c.requires.replica in
    let was = was_view views c.args.replica c.index_mut.result.now there c.index_mut.ensures.value in
    let again : c.index_mut-in-Ok-None.result.now ≡ c.reserve.new.self =
    c.index_mut-in-Ok-None.ensures.value ∙ get_or-set_same views c.args.replica c.reserve.new.self _ there in
    record {
      reserved = c.reserve.new.self.marks;
      room = subst (λ n. n < length c.reserve.new.self.marks) number c.in_ok-reserve.ensures.room;
      same = λ n. c.reserve.ensures.same n ∙ ap (λ v. mark_at v.marks n) was;
      marks = c.insert.ensures.marks ∙ ap (λ v. set v.marks c.args.placement.element Shown) again
          ∙ ap (λ n. set c.reserve.new.self.marks n Shown) number;
      last = c.insert.ensures.last ∙ ap (λ v. v.last) again ∙ c.reserve.ensures.last ∙ ap (λ v. v.last) was;
    }

pub invariant_of-self-in-Ok-None : goal.invariant_of-self-in-Ok-None
invariant_of-self-in-Ok-None c =
    let inside = c.self.inside in
    let new = c.add_insertion.new.order in
    let views = inside.views.items in
    let there = has_view views c.args.self.now.views c.args.replica (ap (λ v. v.views) c.self.view_is) c.requires.replica in
    let placement = c.args.placement in
    let placing = was_placement inside.numbers c.args.self.now.elements c.args.insertion placement
    (ap (λ v. v.elements) c.self.view_is) c.requires.placement in
    let added = rw c.in-Ok-None.field-0-is at c.in-Ok-None.ensures.answer in
    let few = subst (λ xs. length xs < 4294967295) (sym (ap (λ v. v.elements) c.self.view_is)) c.requires.few in
    subst (λ vs. ListWitnessKept c.add.new.self vs new.order new.edges)
    (sym (set-set views c.args.replica c.reserve.new.self c.insert.new.self))
    (subst (λ xs. ListWitnessKept xs (set views c.args.replica c.insert.new.self) new.order new.edges) (sym c.in_ok-add.ensures.added)
    (kept_by_insert inside.numbers views inside.order.order new.order inside.order.edges new.edges c.args.replica
    c.args.insertion.element c.insert.new.self _ _ c.self.invariant there few (is_shown c)
    c.add_insertion.ensures.kept (subst (Contains new.order) placing.element c.in-Ok-None.ensures.there)
    (placed_few inside.numbers c.args.insertion placement placing) added.some))

pub invariant_of-self-in-Ok-Some : goal.invariant_of-self-in-Ok-Some
invariant_of-self-in-Ok-Some c =
    let inside = c.self.inside in
    let new = c.add_insertion.new.order in
    let views = inside.views.items in
    let there = has_view views c.args.self.now.views c.args.replica (ap (λ v. v.views) c.self.view_is) c.requires.replica in
    let was = was_view views c.args.replica c.index_mut.result.now there c.index_mut.ensures.value in
    let rejected = rw c.in-Ok-Some.field-0-is at c.in-Ok-Some.ensures.answer in
    kept_by_rejection inside.numbers c.take_back.new.self inside.views.items inside.order.order new.order inside.order.edges
    new.edges c.args.replica c.reserve.new.self c.self.invariant there
    (c.take_back.ensures ∙ taken_back inside.numbers c.add.new.self c.args.insertion.element c.in_ok-add.ensures.added)
    rejected.0 (λ n. c.reserve.ensures.same n ∙ ap (λ v. mark_at v.marks n) was)
    (c.reserve.ensures.last ∙ ap (λ v. v.last) was) c.add_insertion.ensures.kept

pub invariant_of-self-in-Err : goal.invariant_of-self-in-Err
invariant_of-self-in-Err c =
    let inside = c.self.inside in
    let new = c.add_insertion.new.order in
    let views = inside.views.items in
    let there = has_view views c.args.self.now.views c.args.replica (ap (λ v. v.views) c.self.view_is) c.requires.replica in
    let was = was_view views c.args.replica c.index_mut.result.now there c.index_mut.ensures.value in
    kept_by_rejection inside.numbers c.take_back-in-Err.new.self inside.views.items inside.order.order new.order inside.order.edges
    new.edges c.args.replica c.reserve.new.self c.self.invariant there
    (c.take_back-in-Err.ensures ∙ taken_back inside.numbers c.add.new.self c.args.insertion.element c.in_ok-add.ensures.added)
    c.in-Err.ensures.failed (λ n. c.reserve.ensures.same n ∙ ap (λ v. mark_at v.marks n) was)
    (c.reserve.ensures.last ∙ ap (λ v. v.last) was) c.add_insertion.ensures.kept

pub invariant_of-self-in_err-add : goal.invariant_of-self-in_err-add
invariant_of-self-in_err-add c =
    let inside = c.self.inside in
    let views = inside.views.items in
    let there = has_view views c.args.self.now.views c.args.replica (ap (λ v. v.views) c.self.view_is) c.requires.replica in
    let was = was_view views c.args.replica c.index_mut.result.now there c.index_mut.ensures.value in
    kept_by_rejection inside.numbers c.add.new.self views inside.order.order inside.order.order inside.order.edges
    inside.order.edges c.args.replica c.reserve.new.self c.self.invariant there c.in_err-add.ensures.failed refl
    (λ n. c.reserve.ensures.same n ∙ ap (λ v. mark_at v.marks n) was)
    (c.reserve.ensures.last ∙ ap (λ v. v.last) was) (λ n known. known)

pub add_insertion-requires-clause-left : goal.add_insertion-requires-clause-left
add_insertion-requires-clause-left c =
    neighbor_kept c.self.inside.numbers c.args.insertion.left c.args.placement.left
    (Contains c.self.inside.order.order)
    (was_placement c.self.inside.numbers c.args.self.now.elements c.args.insertion c.args.placement
    (ap (λ v. v.elements) c.self.view_is) c.requires.placement).left c.self.invariant.ordered

pub add_insertion-requires-clause-right : goal.add_insertion-requires-clause-right
add_insertion-requires-clause-right c =
    neighbor_kept c.self.inside.numbers c.args.insertion.right c.args.placement.right
    (Contains c.self.inside.order.order)
    (was_placement c.self.inside.numbers c.args.self.now.elements c.args.insertion c.args.placement
    (ap (λ v. v.elements) c.self.view_is) c.requires.placement).right c.self.invariant.ordered

pub insert-requires-clause-missing : goal.insert-requires-clause-missing
insert-requires-clause-missing c =
    let views = c.self.inside.views.items in
    let number = c.args.placement.element in
    let placing = was_placement c.self.inside.numbers c.args.self.now.elements c.args.insertion c.args.placement
    (ap (λ v. v.elements) c.self.view_is) c.requires.placement in
    let there = has_view views c.args.self.now.views c.args.replica (ap (λ v. v.views) c.self.view_is) c.requires.replica in
    let was = was_view views c.args.replica c.index_mut.result.now there c.index_mut.ensures.value in
    let again : c.index_mut-in-Ok-None.result.now ≡ c.reserve.new.self =
    c.index_mut-in-Ok-None.ensures.value ∙ get_or-set_same views c.args.replica c.reserve.new.self _ there in
    ap (λ v. mark_at v.marks number) again ∙ c.reserve.ensures.same number ∙ ap (λ v. mark_at v.marks number) was
    ∙ c.self.invariant.beyond c.args.replica number (omega (arith, placing.element))

pub returns-in-Ok-None-clause-edges : goal.returns-in-Ok-None-clause-edges
returns-in-Ok-None-clause-edges c =
    let inside = c.self.inside in
    let placement = c.args.placement in
    let placing = was_placement inside.numbers c.args.self.now.elements c.args.insertion placement
    (ap (λ v. v.elements) c.self.view_is) c.requires.placement in
    let list = neighborhood c.args.insertion in
    let new = c.add_insertion.new.order.edges in
    subst (λ es. AddsPairs c.args.label list es (all_named c.add.new.self new)) (ap (λ v. v.edges) c.self.view_is)
    (subst (λ xs. AddsPairs c.args.label list (all_named inside.numbers inside.order.edges) (all_named xs new))
    (sym c.in_ok-add.ensures.added)
    (insertion_added inside.numbers c.args.label inside.order.edges c.args.insertion placement c.self.invariant.between
    placing new (rw c.in-Ok-None.field-0-is at c.in-Ok-None.ensures.answer)))

pub returns-in-Ok-Some-clause-edges : goal.returns-in-Ok-Some-clause-edges
returns-in-Ok-Some-clause-edges c =
    let inside = c.self.inside in
    let placement = c.args.placement in
    let placing = was_placement inside.numbers c.args.self.now.elements c.args.insertion placement
    (ap (λ v. v.elements) c.self.view_is) c.requires.placement in
    let edges = ap (λ v. v.edges) c.self.view_is in
    let new = c.add_insertion.new.order.edges in
    let rejected = rw c.in-Ok-Some.field-0-is at c.in-Ok-Some.ensures.answer in
    let back = c.take_back.ensures
    ∙ taken_back inside.numbers c.add.new.self c.args.insertion.element c.in_ok-add.ensures.added in (
      ap (λ xs. all_named xs new) back ∙ ap (all_named inside.numbers) rejected.0 ∙ edges,
      subst (λ es. IsCycle (with_pairs c.args.label (neighborhood c.args.insertion) es) c.name_edges.new.edges.items) edges
          (insertion_cycle inside.numbers c.args.label inside.order.edges c.args.insertion placement
          c.self.invariant.between placing c.in-Ok-Some.cycle.items c.name_edges.new.edges.items rejected.1
          (c.name_edges.ensures ∙ ap (λ xs. all_named xs c.in-Ok-Some.cycle.items) c.in_ok-add.ensures.added)),
    )

pub returns-in-Ok-None-clause-marks : goal.returns-in-Ok-None-clause-marks
returns-in-Ok-None-clause-marks c =
    let views = c.self.inside.views.items in
    let replica = c.args.replica in
    let there = has_view views c.args.self.now.views replica (ap (λ v. v.views) c.self.view_is) c.requires.replica in
    subst (λ vs. IsMarked vs replica (length c.args.self.now.elements) Shown
    (set (set views replica c.reserve.new.self) replica c.insert.new.self)) (ap (λ v. v.views) c.self.view_is)
    (subst (λ xs. IsMarked views replica (length xs) Shown
    (set (set views replica c.reserve.new.self) replica c.insert.new.self)) (ap (λ v. v.elements) c.self.view_is)
    (subst (IsMarked views replica (length c.self.inside.numbers) Shown)
    (sym (set-set views replica c.reserve.new.self c.insert.new.self))
    (marked_by_insert views replica (length c.self.inside.numbers) c.insert.new.self there (is_shown c))))
