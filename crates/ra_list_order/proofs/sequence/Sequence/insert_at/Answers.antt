use Rattle.std.proofs.Common.{◌<◌, ◌≤◌, ◌∙◌, sym, ap, subst, length, set}
use Rattle.std.specs.Prelude.{Contains}
use Rattle.ra_labels.proofs.Results.{on_err_any}
use Rattle.ra_list_order.specs.Chunks.{chunk_at, joined, IsInsertedAt, group_in}
use Rattle.ra_list_order.proofs.Insertions.{mid_joined, mid_grouped, end_inserted, end_grouped, grouped_unchanged}
use Rattle.ra_list_order.proofs.sequence.Sequence.insert_at.Goals as goal

pub invariant_of-self : goal.invariant_of-self
invariant_of-self c =
    mid_grouped c.self.inside.chunks.items c.args.place c.index_mut.result.now c.reserve.new.self
    (subst (λ cs. c.args.place < length cs) (sym c.self.view_is) c.requires.place) c.index_mut.ensures.value
    c.reserve.ensures.group c.reserve.ensures.elements (group_in c.self.inside.groups.items) c.self.inside.places.items
    c.self.invariant

pub returns-in_err-reserve-clause-failed : goal.returns-in_err-reserve-clause-failed
returns-in_err-reserve-clause-failed c =
    on_err_any c.from_residual.result
    (mid_joined c.self.inside.chunks.items c.args.place c.index_mut.result.now c.reserve.new.self
    (subst (λ cs. c.args.place < length cs) (sym c.self.view_is) c.requires.place) c.index_mut.ensures.value
    c.reserve.ensures.group c.reserve.ensures.elements ∙ ap joined c.self.view_is)

pub invariant_of-self-in_err-extend_to : goal.invariant_of-self-in_err-extend_to
invariant_of-self-in_err-extend_to c =
    mid_grouped c.self.inside.chunks.items c.args.place c.index_mut.result.now c.reserve.new.self
    (subst (λ cs. c.args.place < length cs) (sym c.self.view_is) c.requires.place) c.index_mut.ensures.value
    c.reserve.ensures.group c.reserve.ensures.elements (group_in c.extend_to.new.numbers.items)
    c.self.inside.places.items
    (grouped_unchanged c.self.inside.groups.items c.extend_to.new.numbers.items c.self.inside.chunks.items
    c.self.inside.places.items c.extend_to.ensures.same c.self.invariant)

pub returns-in_err-extend_to-clause-failed : goal.returns-in_err-extend_to-clause-failed
returns-in_err-extend_to-clause-failed c =
    on_err_any c.from_residual-in_err-extend_to.result
    (mid_joined c.self.inside.chunks.items c.args.place c.index_mut.result.now c.reserve.new.self
    (subst (λ cs. c.args.place < length cs) (sym c.self.view_is) c.requires.place) c.index_mut.ensures.value
    c.reserve.ensures.group c.reserve.ensures.elements ∙ ap joined c.self.view_is)

pub invariant_of-self-2 : goal.invariant_of-self-2
invariant_of-self-2 c =
    let same = sym c.self.view_is in
    end_grouped c.self.inside.chunks.items c.args.place c.index_mut.result.now c.reserve.new.self
    (subst (λ cs. c.args.place < length cs) same c.requires.place) c.index_mut.ensures.value
    c.reserve.ensures.group c.reserve.ensures.elements c.index_mut-2.result.now c.insert.new.self c.args.position
    c.args.element (subst (λ cs. c.args.position ≤ length (chunk_at cs c.args.place).elements) same c.requires.among)
    c.index_mut-2.ensures.value c.insert.ensures.group c.insert.ensures.elements c.self.inside.groups.items
    c.extend_to.new.numbers.items c.set_number.new.numbers.items c.self.inside.places.items c.index.result.now
    c.group-group.result c.self.invariant (subst (λ cs. ¬ Contains (joined cs) c.args.element) same c.requires.new)
    c.index.ensures c.group-group.ensures.group c.extend_to.ensures.same c.set_number.ensures.set

pub returns-clause-inserted : goal.returns-clause-inserted
returns-clause-inserted c =
    let same = sym c.self.view_is in
    subst (λ cs. IsInsertedAt cs c.args.place c.args.position c.args.element (set (set c.self.inside.chunks.items
    c.args.place c.reserve.new.self) c.args.place c.insert.new.self)) c.self.view_is
    (end_inserted c.self.inside.chunks.items c.args.place c.index_mut.result.now c.reserve.new.self
    (subst (λ cs. c.args.place < length cs) same c.requires.place) c.index_mut.ensures.value
    c.reserve.ensures.group c.reserve.ensures.elements c.index_mut-2.result.now c.insert.new.self c.args.position
    c.args.element (subst (λ cs. c.args.position ≤ length (chunk_at cs c.args.place).elements) same c.requires.among)
    c.index_mut-2.ensures.value c.insert.ensures.group c.insert.ensures.elements)
