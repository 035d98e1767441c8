use Rattle.std.proofs.Common.{sym, subst, ◌∙◌}
use Rattle.std.specs.Ordering.{nat_cmp}
use Rattle.std.specs.BTreeMap.{get}
use Rattle.ra_visibility.specs.Tracked.{labels_in}
use Rattle.ra_precedence.specs.Conditions.{NameOnlyBelow, MeetsAll, IsStuck}
use Rattle.ra_precedence.specs.Reasons.{AreReasons}
use Rattle.ra_precedence.specs.Solved.{IsSolution}
use Rattle.ra_rga_precedence.specs.Situation.{operations_in}
use Rattle.ra_rga_precedence.specs.Inserting.{IsInserted, AreInserters}
use Rattle.ra_rga_precedence.specs.Needing.{AreNeeds}
use Rattle.ra_rga_precedence.specs.Ranks.{AreRanks}
use Rattle.ra_rga_precedence.specs.UpdateConditions.{AreBelow, HoldNeeds, AreUpdateConditions}
use Rattle.ra_rga_precedence.proofs.NeededLabels.{needed_below}
use Rattle.ra_rga_precedence.proofs.Reasons.{twice_reason, root_reason, absent_reason}
use Rattle.ra_rga_precedence.proofs.Conclusions.{names_only, need_ranks, updates_demanded}
use Rattle.ra_rga_precedence.proofs.ordering.foundation_of.Goals as goal

pub returns-in-Twice-clause-foundation : goal.returns-in-Twice-clause-foundation
returns-in-Twice-clause-foundation c = λ past stands.
    let operations = operations_in c.args.operations.now in
    let (x, apart, first, second) = subst (IsInserted operations c.labels-count.result) c.in-Twice.is c.in_ok-inserters.ensures in
    twice_reason past.records operations stands.listed c.in-Twice.m c.in-Twice.n x apart first second

pub returns-in-Root-clause-foundation : goal.returns-in-Root-clause-foundation
returns-in-Root-clause-foundation c = λ past stands.
    let operations = operations_in c.args.operations.now in
    root_reason past.records operations stands.listed c.in-Root.label
    (subst (IsInserted operations c.labels-count.result) c.in-Root.is c.in_ok-inserters.ensures)

pub returns-in-Absent-clause-foundation : goal.returns-in-Absent-clause-foundation
returns-in-Absent-clause-foundation c = λ past stands.
    let operations = operations_in c.args.operations.now in
    let inserter = get nat_cmp c.in-Each.inserters in
    let count = c.labels-count.ensures ∙ stands.visibility.labels in
    let inserters = subst (IsInserted operations c.labels-count.result) c.in-Each.is c.in_ok-inserters.ensures in
    absent_reason past.records operations stands.listed inserter
    (subst (λ k. AreInserters operations k inserter) count inserters) c.in-Absent.label
    (subst (AreNeeds operations c.labels-count.result inserter) c.in-Absent.is c.in_ok-labels.ensures)

pub update_conditions-requires-clause-below : goal.update_conditions-requires-clause-below
update_conditions-requires-clause-below c =
    let operations = operations_in c.args.operations.now in
    let count = c.labels-count.result in
    let inserter = get nat_cmp c.in-Each.inserters in
    let inserters = subst (IsInserted operations count) c.in-Each.is c.in_ok-inserters.ensures in
    let (len, needs) = subst (AreNeeds operations count inserter) c.in-Each-2.is c.in_ok-labels.ensures in
    subst (λ k. AreBelow k c.as_slice.result.now) c.labels-count.ensures
    (subst (AreBelow count) (sym c.as_slice.ensures.value)
    (needed_below operations count inserter c.in-Each-2.labels.items inserters needs))

pub order_of-requires : goal.order_of-requires
order_of-requires c =
    subst (λ k. NameOnlyBelow k c.deref.result.now) (sym c.labels-count.ensures)
    (subst (NameOnlyBelow (labels_in c.args.tracker.now.now)) (sym c.deref.ensures.value)
    (names_only (labels_in c.args.tracker.now.now) c.in_ok-conditions.conditions.items c.in_ok-conditions.ensures.named))

pub returns-in-Stuck-clause-foundation : goal.returns-in-Stuck-clause-foundation
returns-in-Stuck-clause-foundation c = λ past stands.
    let operations = operations_in c.args.operations.now in
    let count = c.labels-count.result in
    let inserter = get nat_cmp c.in-Each.inserters in
    let labels = stands.visibility.labels in
    let same = c.labels-count.ensures ∙ labels in
    let inserters = subst (IsInserted operations count) c.in-Each.is c.in_ok-inserters.ensures in
    let (len, needs) = subst (AreNeeds operations count inserter) c.in-Each-2.is c.in_ok-labels.ensures in
    let conditions = c.in_ok-conditions.conditions.items in
    let (stuck, below) = subst (IsSolution count c.deref.result.now) c.in-Stuck.is c.in_ok-order.ensures in (
      conditions,
      updates_demanded past.records operations stands.listed inserter
          (subst (λ k. AreInserters operations k inserter) same inserters) c.in-Each-2.labels.items (len ∙ same) needs
          conditions
          (subst (λ k. AreUpdateConditions past.records c.in-Each-2.labels.items k conditions) labels
          (subst (λ ls. AreUpdateConditions past.records ls (labels_in c.args.tracker.now.now) conditions)
          c.as_slice.ensures.value (c.in_ok-conditions.ensures.are past stands))),
      subst (IsStuck conditions) (sym c.in_ok-stuck-in-Stuck.ensures.labels)
          (subst (λ cs. IsStuck cs c.in-Stuck.set.items) c.deref.ensures.value stuck),
      subst (λ cs. AreReasons cs c.in_ok-stuck-in-Stuck.stuck.reasons.items) c.deref-in-Stuck.ensures.value c.in_ok-stuck-in-Stuck.ensures.reasons,
    )

pub returns-clause-named : goal.returns-clause-named
returns-clause-named c =
    let operations = operations_in c.args.operations.now in
    let count = c.labels-count.result in
    let total = labels_in c.args.tracker.now.now in
    let inserter = get nat_cmp c.in-Each.inserters in
    let same = c.labels-count.ensures in
    let needed = c.in-Each-2.labels.items in
    let ranks = c.in_ok-ranks-in-Order.ranks.items in
    let inserters = subst (IsInserted operations count) c.in-Each.is c.in_ok-inserters.ensures in
    let (len, needs) = subst (AreNeeds operations count inserter) c.in-Each-2.is c.in_ok-labels.ensures in
    let conditions = c.in_ok-conditions.conditions.items in
    let order = c.in-Order.order.items in
    let (each, meets) = subst (IsSolution count c.deref.result.now) c.in-Order.is c.in_ok-order.ensures in (
      c.in_ok-conditions.ensures.named,
      record {
        inserters = subst (λ k. AreInserters operations k inserter) same inserters;
        len = len ∙ same;
        needs = needs;
        ranked =
            need_ranks operations total inserter needed (len ∙ same) needs conditions
            (subst (λ ls. HoldNeeds operations ls total conditions) c.as_slice.ensures.value c.in_ok-conditions.ensures.needs)
            order ranks (subst (MeetsAll order) c.deref.ensures.value meets)
            (subst (λ k. AreRanks k order ranks) same
            (subst (λ xs. AreRanks count xs ranks) c.as_slice-in-Order.ensures.value c.in_ok-ranks-in-Order.ensures));
      },
    )
