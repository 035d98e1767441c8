use Rattle.std.proofs.Common.{◌∙◌, sym, ap, subst}
use Rattle.std.specs.List.Sorted.{IsPermutation}
use Rattle.ra_list_order.specs.Chunks.{joined}
use Rattle.ra_list_order.specs.ListOrder.{ListOrder}
use Rattle.ra_list_order.proofs.Rearrangements.{moved_is, once_read, plan_known, plan_elements, plan_kept}
use Rattle.ra_list_order.proofs.list_order.ListOrder.rearrange.Goals as goal

pub gather-requires-clause-known : goal.gather-requires-clause-known
gather-requires-clause-known c =
    plan_known c.self.inside.order c.self.inside.edges c.args.edge c.in-Some.plan
    (c.can_be_cut.ensures.chunk c.if-not-can_be_cut.false) (c.in_ok-can_be_done.ensures c.if-not-branch.false) c.deref-4.result.now
    (moved_is c.in-Some.plan.ancestors.items c.in-Some.plan.descendants.items c.new-moved.result.items c.deref.result.now
    c.deref-2.result.now c.extend_from_slice.new.self.items c.extend_from_slice-2.new.self.items c.deref-4.result.now
    c.new-moved.ensures.items c.deref.ensures.value c.in_ok-extend_from_slice.ensures.items c.deref-2.ensures.value
    c.in_ok-extend_from_slice-2.ensures.items c.deref-4.ensures.value)

pub gather-requires-clause-once : goal.gather-requires-clause-once
gather-requires-clause-once c =
    once_read c.in_ok-index.field-0 c.in-Some-2.index c.deref-3.result.now c.deref-4.result.now c.in-Some-2.is
    c.in_ok-index.ensures.once (c.deref-3.ensures.value ∙ sym c.deref-4.ensures.value)

pub invariant_of-self-in-Ok : goal.invariant_of-self-in-Ok
invariant_of-self-in-Ok c =
    plan_kept c.self.inside.order c.self.inside.edges c.args.edge c.in-Some.plan
    (c.can_be_cut.ensures.chunk c.if-not-can_be_cut.false) (c.in_ok-can_be_done.ensures c.if-not-branch.false) c.gather.new.self
    c.deref-4.result.now
    (moved_is c.in-Some.plan.ancestors.items c.in-Some.plan.descendants.items c.new-moved.result.items c.deref.result.now
    c.deref-2.result.now c.extend_from_slice.new.self.items c.extend_from_slice-2.new.self.items c.deref-4.result.now
    c.new-moved.ensures.items c.deref.ensures.value c.in_ok-extend_from_slice.ensures.items c.deref-2.ensures.value
    c.in_ok-extend_from_slice-2.ensures.items c.deref-4.ensures.value)
    (once_read c.in_ok-index.field-0 c.in-Some-2.index c.deref-3.result.now c.deref-4.result.now c.in-Some-2.is
    c.in_ok-index.ensures.once (c.deref-3.ensures.value ∙ sym c.deref-4.ensures.value))
    c.in-Ok.ensures.gathered c.self.invariant c.push.new.self c.in_ok-push.ensures.pushed

pub returns-in-Ok-clause-elements : goal.returns-in-Ok-clause-elements
returns-in-Ok-clause-elements c =
    subst (λ xs. IsPermutation xs (joined c.gather.new.self)) (ap (λ (l : ListOrder). l.order) c.self.view_is)
    (plan_elements c.self.inside.order c.self.inside.edges c.args.edge c.in-Some.plan
    (c.can_be_cut.ensures.chunk c.if-not-can_be_cut.false) (c.in_ok-can_be_done.ensures c.if-not-branch.false) c.gather.new.self
    c.deref-4.result.now
    (moved_is c.in-Some.plan.ancestors.items c.in-Some.plan.descendants.items c.new-moved.result.items c.deref.result.now
    c.deref-2.result.now c.extend_from_slice.new.self.items c.extend_from_slice-2.new.self.items c.deref-4.result.now
    c.new-moved.ensures.items c.deref.ensures.value c.in_ok-extend_from_slice.ensures.items c.deref-2.ensures.value
    c.in_ok-extend_from_slice-2.ensures.items c.deref-4.ensures.value)
    (once_read c.in_ok-index.field-0 c.in-Some-2.index c.deref-3.result.now c.deref-4.result.now c.in-Some-2.is
    c.in_ok-index.ensures.once (c.deref-3.ensures.value ∙ sym c.deref-4.ensures.value))
    c.in-Ok.ensures.gathered c.self.invariant)

pub returns-in-Ok-clause-extends : goal.returns-in-Ok-clause-extends
returns-in-Ok-clause-extends c =
    (plan_kept c.self.inside.order c.self.inside.edges c.args.edge c.in-Some.plan
    (c.can_be_cut.ensures.chunk c.if-not-can_be_cut.false) (c.in_ok-can_be_done.ensures c.if-not-branch.false) c.gather.new.self
    c.deref-4.result.now
    (moved_is c.in-Some.plan.ancestors.items c.in-Some.plan.descendants.items c.new-moved.result.items c.deref.result.now
    c.deref-2.result.now c.extend_from_slice.new.self.items c.extend_from_slice-2.new.self.items c.deref-4.result.now
    c.new-moved.ensures.items c.deref.ensures.value c.in_ok-extend_from_slice.ensures.items c.deref-2.ensures.value
    c.in_ok-extend_from_slice-2.ensures.items c.deref-4.ensures.value)
    (once_read c.in_ok-index.field-0 c.in-Some-2.index c.deref-3.result.now c.deref-4.result.now c.in-Some-2.is
    c.in_ok-index.ensures.once (c.deref-3.ensures.value ∙ sym c.deref-4.ensures.value))
    c.in-Ok.ensures.gathered c.self.invariant c.push.new.self c.in_ok-push.ensures.pushed).extends
