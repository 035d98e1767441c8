use Rattle.std.proofs.Common.{◌∙◌, sym}
use Rattle.std.specs.BTreeMap.{get}
use Rattle.std.specs.Ordering.{nat_cmp}
use Rattle.std.proofs.lemmas.Bool.{ltb-true}
use Rattle.ra_list_order.specs.Plans.{moved_by, left_by, right_by}
use Rattle.ra_list_order.proofs.Indexes.{both_moved, first_moved, second_moved}
use Rattle.ra_list_order.proofs.gathering.leads_forward.Goals as goal

pub returns-in-Some-Some : goal.returns-in-Some-Some
returns-in-Some-Some c = λ is.
    both_moved (get nat_cmp c.args.index.now) (moved_by c.args.plan.now) c.requires
    (left_by c.args.order.now c.args.plan.now) (right_by c.args.order.now c.args.plan.now) c.args.edge.before
    c.args.edge.after c.in-Some-Some.i c.in-Some-Some.j
    (sym (c.copied-from.ensures ∙ c.get.ensures.value) ∙ c.in-Some-Some.is-0)
    (sym (c.copied-to.ensures ∙ c.get-2.ensures.value) ∙ c.in-Some-Some.is-1)
    (ltb-true c.in-Some-Some.i c.in-Some-Some.j is)

pub returns-in-Some-None : goal.returns-in-Some-None
returns-in-Some-None c = λ is.
    first_moved (get nat_cmp c.args.index.now) (moved_by c.args.plan.now) c.requires
    (left_by c.args.order.now c.args.plan.now) (right_by c.args.order.now c.args.plan.now) c.args.edge.before
    c.args.edge.after _
    (sym (c.copied-from.ensures ∙ c.get.ensures.value) ∙ c.in-Some-None.is-0)
    (sym (c.copied-to.ensures ∙ c.get-2.ensures.value) ∙ c.in-Some-None.is-1)
    (c.is_behind.ensures is)

pub returns-in-None-Some : goal.returns-in-None-Some
returns-in-None-Some c = λ is.
    second_moved (get nat_cmp c.args.index.now) (moved_by c.args.plan.now) c.requires
    (left_by c.args.order.now c.args.plan.now) (right_by c.args.order.now c.args.plan.now) c.args.edge.before
    c.args.edge.after _
    (sym (c.copied-from.ensures ∙ c.get.ensures.value) ∙ c.in-None-Some.is-0)
    (sym (c.copied-to.ensures ∙ c.get-2.ensures.value) ∙ c.in-None-Some.is-1)
    (c.is_in_front.ensures is)
