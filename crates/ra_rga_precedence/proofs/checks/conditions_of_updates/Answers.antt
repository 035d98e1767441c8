use Rattle.std.proofs.Common.{sym, subst, ◌∙◌}
use Rattle.std.specs.Ordering.{nat_cmp}
use Rattle.std.specs.BTreeMap.{get}
use Rattle.ra_visibility.specs.Tracked.{labels_in}
use Rattle.ra_rga_precedence.specs.Situation.{operations_in}
use Rattle.ra_rga_precedence.specs.Inserting.{IsInserted, AreInserters}
use Rattle.ra_rga_precedence.specs.Needing.{AreNeeds}
use Rattle.ra_rga_precedence.specs.UpdateConditions.{AreBelow, AreUpdateConditions}
use Rattle.ra_rga_precedence.proofs.NeededLabels.{needed_below}
use Rattle.ra_rga_precedence.proofs.Conclusions.{updates_demanded}
use Rattle.ra_rga_precedence.proofs.checks.conditions_of_updates.Goals as goal

pub update_conditions-requires-clause-below : goal.update_conditions-requires-clause-below
update_conditions-requires-clause-below c =
    let operations = operations_in c.args.operations.now in
    let count = c.labels-count.result in
    let inserter = get nat_cmp c.in-Each.inserters in
    let inserters = subst (IsInserted operations count) c.in-Each.is c.in_ok-inserters.ensures in
    let (len, needs) = subst (AreNeeds operations count inserter) c.in-Each-2.is c.in_ok-needed.ensures in
    subst (λ k. AreBelow k c.as_slice.result.now) c.labels-count.ensures
    (subst (AreBelow count) (sym c.as_slice.ensures.value)
    (needed_below operations count inserter c.in-Each-2.needed.items inserters needs))

pub returns : goal.returns
returns c = λ past stands.
    let operations = operations_in c.args.operations.now in
    let count = c.labels-count.result in
    let inserter = get nat_cmp c.in-Each.inserters in
    let labels = stands.visibility.labels in
    let same = c.labels-count.ensures ∙ labels in
    let inserters = subst (IsInserted operations count) c.in-Each.is c.in_ok-inserters.ensures in
    let (len, needs) = subst (AreNeeds operations count inserter) c.in-Each-2.is c.in_ok-needed.ensures in
    let conditions = c.in_ok-conditions.conditions.items in
    updates_demanded past.records operations stands.listed inserter
    (subst (λ k. AreInserters operations k inserter) same inserters) c.in-Each-2.needed.items (len ∙ same) needs
    conditions
    (subst (λ k. AreUpdateConditions past.records c.in-Each-2.needed.items k conditions) labels
    (subst (λ ls. AreUpdateConditions past.records ls (labels_in c.args.tracker.now.now) conditions)
    c.as_slice.ensures.value (c.in_ok-conditions.ensures.are past stands)))
