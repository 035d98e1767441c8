use Rattle.std.proofs.Common.{subst}
use Rattle.ra_list_order.specs.Gathering.{HasEdgesAt}
use Rattle.ra_list_order.specs.Plans.{left_by, right_by}
use Rattle.ra_list_order.proofs.Gatherings.{can_be_gathered}
use Rattle.ra_list_order.proofs.gathering.can_be_done.Goals as goal

pub returns : goal.returns
returns c = λ is.
    let plan = c.args.plan.now in
    can_be_gathered (left_by c.args.order.now plan) (right_by c.args.order.now plan) plan.ancestors.items
    plan.descendants.items c.deref.result.now c.deref-else-not-are_behind.result.now c.args.edges.now
    c.in_ok-walked.walked.items c.deref-4.result.now c.args.new c.deref.ensures.value
    c.deref-else-not-are_behind.ensures.value (c.are_behind.ensures c.if-not-are_behind.false)
    (c.are_in_front.ensures c.if-not-are_in_front.false) (c.leads_forward.ensures c.if-not-leads_forward.false)
    (subst (λ xs. HasEdgesAt c.args.edges.now xs plan.descendants.items c.in_ok-walked.walked.items)
    c.deref-2.ensures.value
    (subst (λ xs. HasEdgesAt c.args.edges.now c.deref-2.result.now xs c.in_ok-walked.walked.items)
    c.deref-3.ensures.value c.in_ok-walked.ensures))
    c.deref-4.ensures.value (c.all_lead_forward.ensures is)
