use Rattle.std.proofs.Common.{◌<◌, ◌++◌, ◌∷◌, [], ℕ, None, sym, ap, subst, ◌∙◌, get_or}
use Rattle.std.specs.Prelude.{Contains}
use Rattle.ra_labels.specs.Records.{label_count}
use Rattle.ra_visibility.specs.Tracked.{labels_in}
use Rattle.ra_visibility.specs.Newest.{AreNewest}
use Rattle.ra_any_order.specs.Reading.{order_condition}
use Rattle.ra_any_order.specs.Situation.{operations_in}
use Rattle.ra_any_order.proofs.FoundChanges.{low_earlier}
use Rattle.ra_any_order.proofs.NamedLabels.{ordering_named}
use Rattle.ra_any_order.proofs.ReadOutcomes.{label_outcome, label_named}
use Rattle.ra_any_order.proofs.conditions.add_label.Goals as goal

pub returns-clause-named : goal.returns-clause-named
returns-clause-named c = λ named.
    let n = c.args.label in
    let count = labels_in c.args.tracker.now.now in
    let before = get_or c.args.previous.now n None in
    let newest = c.in_ok-newest.newest.items in
    let mid = c.add_read.new.conditions.items in
    label_named count mid c.push.new.self.items (order_condition newest before n)
    (c.in_ok-push.ensures.items ∙ ap (λ o. mid ++ o ∷ []) c.in_ok-order_condition.ensures)
    (ordering_named (operations_in c.args.operations.now) newest count c.in_ok-newest.ensures.below before n
    (low_earlier before n count (c.requires.earlier.earlier n) c.requires.label) c.requires.label) c.in_ok-outcome.outcome
    (c.in_ok-outcome.ensures.named named
    (subst (λ xs. (m : ℕ) → Contains xs m → m < count) (sym c.deref.ensures.value) c.in_ok-newest.ensures.below))

pub returns-clause-outcome : goal.returns-clause-outcome
returns-clause-outcome c = λ past stands previous view kept.
    let n = c.args.label in
    let before = get_or c.args.previous.now n None in
    let newest = c.in_ok-newest.newest.items in
    let mid = c.add_read.new.conditions.items in
    let below : n < label_count past.records = subst (λ k. n < k) stands.visibility.labels c.requires.label in
    let are = c.in_ok-newest.ensures.newest past stands.visibility in
    label_outcome past.records (operations_in c.args.operations.now) stands.listed n below newest are before
    (previous n c.requires.label) c.args.conditions.now.items mid c.push.new.self.items kept
    (c.in_ok-push.ensures.items ∙ ap (λ o. mid ++ o ∷ []) c.in_ok-order_condition.ensures) c.in_ok-outcome.outcome
    (c.in_ok-outcome.ensures.outcome past stands previous view kept
    (subst (AreNewest past.records n) (sym c.deref.ensures.value) are))
