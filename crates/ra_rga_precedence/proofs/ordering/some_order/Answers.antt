use Rattle.std.proofs.Common.{sym, subst, ◌∙◌}
use Rattle.ra_visibility.specs.Tracked.{labels_in}
use Rattle.ra_precedence.specs.Conditions.{NameOnlyBelow, HasEachBelow, MeetsAll, IsStuck}
use Rattle.ra_precedence.specs.Reasons.{AreReasons}
use Rattle.ra_precedence.specs.Solved.{IsSolution}
use Rattle.ra_some_order.specs.SomeOrder.{EachLabelIsOfKind}
use Rattle.ra_some_order.specs.Covering.{ExtendsVisibility}
use Rattle.ra_some_order.specs.LabelOrders.{IsOrderOfLabels}
use Rattle.ra_rga_precedence.specs.LabelSlots.{KeepsOrderOfUpdates}
use Rattle.ra_rga_precedence.specs.declared.answer.Refutation.TheVariants.{Stuck}
use Rattle.ra_rga_precedence.specs.Answers.{AreDemands, DemandsName}
use Rattle.ra_rga_precedence.proofs.Reasons.{reason_final}
use Rattle.ra_rga_precedence.proofs.Conclusions.{names_only, order_explaining}
use Rattle.ra_rga_precedence.proofs.ordering.some_order.Goals as goal

pub order_of-requires : goal.order_of-requires
order_of-requires c =
    let total = labels_in c.args.tracker.now.now in
    subst (λ k. NameOnlyBelow k c.deref.result.now) (sym c.labels.ensures)
    (subst (NameOnlyBelow total) (sym c.deref.ensures.value)
    (names_only total c.in-Conditions.conditions.items
    (subst (DemandsName total) c.in-Conditions.is c.in_ok-conditions.ensures.named)))

pub place_reads-requires : goal.place_reads-requires
place_reads-requires c =
    let (each, meets) = subst (IsSolution c.labels.result c.deref.result.now) c.in-Order.is c.in_ok-order.ensures in
    subst (λ k. HasEachBelow k c.deref-in-Order.result.now) c.labels.ensures
    (subst (HasEachBelow c.labels.result) (sym c.deref-in-Order.ensures.value) each)

pub returns-in-Order : goal.returns-in-Order
returns-in-Order c = λ past stands.
    let count = c.labels.ensures ∙ stands.visibility.labels in
    let order = c.in-Order.order.items in
    let labels = c.in_ok-labels-in-Order.labels.items in
    let (plain, demanded, enough) = subst (AreDemands past.records) c.in-Conditions.is
    (c.in_ok-conditions.ensures.demands past stands) in
    let (each, meets) = subst (IsSolution c.labels.result c.deref.result.now) c.in-Order.is c.in_ok-order.ensures in
    order_explaining past.records (subst (λ kind. EachLabelIsOfKind kind past.records) stands.kind stands.of_kind) plain
    c.in-Conditions.conditions.items enough order labels (subst (λ k. HasEachBelow k order) count each)
    (subst (MeetsAll order) c.deref.ensures.value meets)
    (subst (λ ns. ExtendsVisibility past.records ns → IsOrderOfLabels past.records labels
    × KeepsOrderOfUpdates past.records ns labels) c.deref-in-Order.ensures.value (c.in_ok-labels-in-Order.ensures past stands))

pub returns : goal.returns
returns c = λ past stands.
    let conditions = c.in-Conditions.conditions.items in
    let (plain, demanded, enough) = subst (AreDemands past.records) c.in-Conditions.is
    (c.in_ok-conditions.ensures.demands past stands) in
    let (stuck, below) = subst (IsSolution c.labels.result c.deref.result.now) c.in-Stuck.is c.in_ok-order.ensures in
    let its = c.in_ok-stuck-in-Stuck.stuck in
    let held = subst (IsStuck conditions) (sym c.in_ok-stuck-in-Stuck.ensures.labels)
    (subst (λ cs. IsStuck cs c.in-Stuck.set.items) c.deref.ensures.value stuck) in
    let reasons = subst (λ cs. AreReasons cs its.reasons.items) c.deref-in-Stuck.ensures.value c.in_ok-stuck-in-Stuck.ensures.reasons in (
      (conditions, demanded, held, reasons),
      reason_final past.records (subst (λ kind. EachLabelIsOfKind kind past.records) stands.kind stands.of_kind)
          (Stuck its) (conditions, demanded, held, reasons),
    )
