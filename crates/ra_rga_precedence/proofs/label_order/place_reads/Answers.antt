use Rattle.std.proofs.Common.{sym, ap, subst, ◌∙◌}
use Rattle.std.proofs.lemmas.Result.{IfOk-weaker}
use Rattle.ra_precedence.specs.Conditions.{HasEachBelow}
use Rattle.ra_some_order.specs.LabelOrders.{IsOrderOfLabels}
use Rattle.ra_rga_precedence.specs.LabelSlots.{KeepsOrderOfUpdates}
use Rattle.ra_rga_precedence.proofs.LabelSlots.{labels_at}
use Rattle.ra_rga_precedence.proofs.SortedSlots.{order_from_slots}
use Rattle.ra_rga_precedence.proofs.label_order.place_reads.Goals as goal

pub returns : goal.returns
returns c =
    let order = c.args.order.now in
    let slots = c.in_ok-slots.slots.items in
    let sorted = c.sort_unstable.new.self.items in
    IfOk-weaker c.labels_at.result _ _ (λ labels is past stands extended.
    subst (λ ns. IsOrderOfLabels past.records ns × KeepsOrderOfUpdates past.records order ns)
    (sym (is ∙ ap labels_at c.deref.ensures.value))
    (order_from_slots past.records order slots sorted c.sort_unstable.ensures.permutation
    c.sort_unstable.ensures.sorted
    (subst (λ k. HasEachBelow k (labels_at slots)) stands.visibility.labels c.in_ok-slots.ensures.each)
    (c.in_ok-slots.ensures.slots past stands extended)))
    c.labels_at.ensures
