use Rattle.std.proofs.Common.{◌<◌, sym, subst, ◌∙◌}
use Rattle.ra_visibility.specs.Tracked.{labels_in}
use Rattle.ra_precedence.specs.Conditions.{NameOnlyBelow, HasEachBelow, MeetsAll, IsStuck}
use Rattle.ra_precedence.specs.Reasons.{AreReasons}
use Rattle.ra_precedence.specs.Solved.{IsSolution}
use Rattle.ra_any_order.specs.Found.{IsFound, NamesBelow}
use Rattle.ra_any_order.proofs.NamedLabels.{names_only}
use Rattle.ra_any_order.proofs.Conclusions.{order_explains, stuck_refutes, impossible_refutes}
use Rattle.ra_any_order.proofs.ordering.some_order.Goals as goal

pub returns-in-Impossible : goal.returns-in-Impossible
returns-in-Impossible c = λ past stands.
    let impossible = subst (IsFound past.records) c.in-Impossible.is (c.in_ok-conditions.ensures.found past stands) in (
      impossible,
      impossible_refutes past.kind stands.kind past.records stands.of_kind
          c.in-Impossible.label c.in-Impossible.element impossible,
    )

pub order_of-requires : goal.order_of-requires
order_of-requires c =
    subst (λ count. NameOnlyBelow count c.deref.result.now) (sym c.labels.ensures)
    (subst (NameOnlyBelow (labels_in c.args.tracker.now.now)) (sym c.deref.ensures.value)
    (names_only (labels_in c.args.tracker.now.now) c.in-Conditions.conditions.items
    (subst (NamesBelow (labels_in c.args.tracker.now.now)) c.in-Conditions.is c.in_ok-conditions.ensures.named)))

pub returns-in-Order : goal.returns-in-Order
returns-in-Order c = λ past stands.
    let count = c.labels.ensures ∙ stands.visibility.labels in
    let are = subst (IsFound past.records) c.in-Conditions.is (c.in_ok-conditions.ensures.found past stands) in
    let (each, meets) = subst (IsSolution c.labels.result c.deref.result.now) c.in-Order.is c.in_ok-order.ensures in
    order_explains past.records c.in-Conditions.conditions.items are past.kind
    stands.kind stands.of_kind c.in-Order.order.items
    (subst (λ k. HasEachBelow k c.in-Order.order.items) count each)
    (subst (MeetsAll c.in-Order.order.items) c.deref.ensures.value meets)

pub returns : goal.returns
returns c = λ past stands.
    let count = c.labels.ensures ∙ stands.visibility.labels in
    let conditions = c.in-Conditions.conditions.items in
    let are = subst (IsFound past.records) c.in-Conditions.is (c.in_ok-conditions.ensures.found past stands) in
    let (stuck, below) = subst (IsSolution c.labels.result c.deref.result.now) c.in-Stuck.is c.in_ok-order.ensures in
    let held = subst (λ cs. IsStuck cs c.in-Stuck.set.items) c.deref.ensures.value stuck in
    let its = c.in_ok-stuck-in-Stuck.stuck in (
      (
        conditions,
        are.required,
        subst (IsStuck conditions) (sym c.in_ok-stuck-in-Stuck.ensures.labels) held,
        subst (λ cs. AreReasons cs its.reasons.items) c.deref-in-Stuck.ensures.value c.in_ok-stuck-in-Stuck.ensures.reasons,
      ),
      stuck_refutes past.records conditions are past.kind stands.kind stands.of_kind
          c.in-Stuck.set.items held (λ b there. subst (λ k. b < k) count (below b there)),
    )
