use Rattle.std.proofs.Common.{◌≡◌, ◌<◌, ℕ, true, sym, ap, subst, ◌∙◌, arith}
use Rattle.std.specs.BTreeSet.{contains}
use Rattle.std.specs.Ordering.{nat_cmp}
use Rattle.std.specs.Prelude.{◌⊎◌, Contains}
use Rattle.std.proofs.lemmas.Result.{IfOk-weaker}
use Rattle.ra_labels.specs.Lists.{is_among}
use Rattle.ra_labels.specs.Places.{issuer_of}
use Rattle.ra_labels.specs.Records.{label_count}
use Rattle.ra_labels.specs.Visibility.{sees}
use Rattle.ra_theorems.proofs.TheoremIndex.{sees_earlier_updates-updates, delivered_are_updates-there}
use Rattle.ra_visibility.specs.Tracked.{labels_in}
use Rattle.ra_any_order.specs.Changes.{read_list, list_of}
use Rattle.ra_any_order.specs.Finding.{AreFound}
use Rattle.ra_any_order.specs.Situation.{operations_in}
use Rattle.ra_any_order.proofs.ReadOutcomes.{set_outcome, elements_outcome_named, view_after}
use Rattle.ra_any_order.proofs.reads.add_elements.Goals as goal

pub returns-clause-below : goal.returns-clause-below
returns-clause-below c = IfOk-weaker c.add_each.result _ _ (λ outcome it. c.in_ok-elements.ensures.below) c.add_each.ensures

pub returns-clause-named : goal.returns-clause-named
returns-clause-named c = IfOk-weaker c.add_each.result _ _ (λ outcome it.
    elements_outcome_named (operations_in c.args.operations.now) c.elements_of.new.view.newest c.replicas-replicas.result
    (labels_in c.args.tracker.now.now) (contains nat_cmp c.in_ok-listed.listed) c.deref.result.now
    c.args.conditions.now.items c.add_each.new.conditions.items c.in_ok-elements.ensures.below.newest outcome it)
    c.add_each.ensures

pub returns-clause-view : goal.returns-clause-view
returns-clause-view c = IfOk-weaker c.add_each.result _ _ (λ outcome it past stands previous view list is.
    view_after past.records (operations_in c.args.operations.now) c.args.label c.elements_of.new.view list
    c.in_ok-elements.ensures.last is (c.in_ok-elements.ensures.found past stands previous view).newest) c.add_each.ensures

pub returns-clause-outcome : goal.returns-clause-outcome
returns-clause-outcome c = IfOk-weaker c.add_each.result _ _ (λ outcome it past stands previous view kept list is.
    let ops = operations_in c.args.operations.now in
    let n = c.args.label in
    let last = c.args.view.now.last in
    let below : n < label_count past.records = subst (λ k. n < k) stands.visibility.labels c.requires.label in
    let elements_are = c.deref.ensures.value in
    let found = subst (AreFound past.records ops last n c.elements_of.new.view.newest) (sym elements_are)
    (c.in_ok-elements.ensures.found past stands previous view) in
    let few : (k : ℕ) → sees past.records n k ≡ true → issuer_of past.records k < c.replicas-replicas.result = λ k seen.
    let there = delivered_are_updates-there past.records k (sees_earlier_updates-updates past.records n k seen) in
    let labels = stands.visibility.labels in
    c.replicas-replicas.ensures.issuers past stands.visibility k (omega (arith, there, labels)) in
    set_outcome past.records ops stands.listed n below list is last view.last c.elements_of.new.view.newest
    c.deref.result.now found c.replicas-replicas.result few (contains nat_cmp c.in_ok-listed.listed)
    (λ x. c.in_ok-listed.ensures x ∙ ap (is_among x) c.list_of.ensures ∙ ap (λ o. is_among x (read_list o)) is)
    (λ x. subst (λ xs. Contains xs x ⊎ (contains nat_cmp c.in_ok-listed.listed x ≡ is_among x (list_of ops last)))
    (sym elements_are) (c.in_ok-elements.ensures.listed x))
    c.args.conditions.now.items c.add_each.new.conditions.items kept outcome it) c.add_each.ensures
