use Rattle.std.proofs.Common.{◌≡◌, ◌∙◌, ◌+◌, ◌++◌, ◌∷◌, ℕ, List, None, [], refl, sym, ap, subst}
use Rattle.std.specs.BTreeSet.{contains}
use Rattle.std.specs.Ordering.{nat_cmp}
use Rattle.std.specs.Prelude.{take}
use Rattle.ra_labels.specs.declared.operation.Op.TheVariants as op
use Rattle.ra_labels.specs.HistorySoFar.{history_with, operate, next_operation}
use Rattle.ra_labels.specs.Places.{issuer_of}
use Rattle.ra_labels.specs.Records.{label_count}
use Rattle.ra_precedence.specs.Lasts.{count_of}
use Rattle.ra_visibility.specs.Newest.{AreNewest}
use Rattle.ra_visibility.specs.Tracked.{labels_in}
use Rattle.ra_any_order.specs.declared.next_elements.TheConstants.{MOST_ASKED}
use Rattle.ra_any_order.specs.NextRead.{with_read}
use Rattle.ra_any_order.specs.Previous.{IsLastBelow}
use Rattle.ra_any_order.specs.Reading.{order_condition}
use Rattle.ra_any_order.specs.Requirements.{AreConditionsBelow, NameBelow}
use Rattle.ra_any_order.specs.Situation.{operations_in}
use Rattle.ra_any_order.specs.Standings.{AreBelow, AreSeenUpdates, AreStandings}
use Rattle.ra_any_order.proofs.ElementAnswers.{changes_before, found_of, first_asked}
use Rattle.ra_any_order.proofs.NamedLabels.{asked_named, names_only}
use Rattle.ra_any_order.proofs.NextReads.{each_next}
use Rattle.ra_any_order.proofs.next_elements.elements_at.Goals as goal

pub new-requires : goal.new-requires
new-requires c =
    let count = labels_in c.args.tracker.now.now in
    let n = c.args.read in
    let conditions = c.args.conditions.items in
    let previous = c.in_ok-previous.previous in
    let all = c.in_ok-conditions.ensures
    ∙ ap (λ xs. conditions ++ order_condition xs previous n ∷ []) c.deref.ensures.value in
    names_only c.labels.result c.in_ok-conditions.conditions.items
    (subst (λ k. NameBelow k c.in_ok-conditions.conditions.items) (sym c.labels.ensures)
    (subst (NameBelow count) (sym all)
    (asked_named (operations_in c.args.operations.now) c.in_ok-newest.newest.items count c.in_ok-newest.ensures.below previous
    n c.in_ok-previous.ensures.earlier c.requires.read conditions c.requires.named)))

pub sort_elements-requires-clause-below : goal.sort_elements-requires-clause-below
sort_elements-requires-clause-below c =
    subst (λ k. AreBelow k c.in_ok-seen.seen) (sym (c.in_ok-solver.ensures.count ∙ c.labels.ensures))
    c.in_ok-seen.ensures.below

pub returns-clause-found : goal.returns-clause-found
returns-clause-found c = λ past replica is of_kind next listed kept explained.
    let n = label_count past.records in
    let read = c.args.read in
    let ops = operations_in c.args.operations.now in
    let tracked = c.args.tracker.now.now in
    let newest = c.in_ok-newest.newest.items in
    let previous = c.in_ok-previous.previous in
    let conditions = c.args.conditions.items in
    let seen = c.in_ok-seen.seen in
    let solver = c.in_ok-solver.solver in
    let asked = contains nat_cmp c.in_ok-asked.asked in
    let found = c.in_ok-found.found in
    let are = each_next c.args.tracker.now.now past replica next (λ records k. AreNewest records k newest) read is
    c.in_ok-newest.ensures.newest in
    let last = each_next c.args.tracker.now.now past replica next
    (λ records k. IsLastBelow records k (issuer_of records k) previous) read is c.in_ok-previous.ensures.last in
    let below = subst (λ k. AreConditionsBelow past.records k conditions) (sym is) kept in
    let seen_are : (list : List ℕ) → AreSeenUpdates (with_read past.records replica (op.LwwRead list)) ops n seen =
    λ list. subst (λ k. AreSeenUpdates (with_read past.records replica (op.LwwRead list)) ops k seen) (sym is)
    (c.in_ok-seen.ensures.seen (history_with past (operate (next_operation replica (op.LwwRead list) None)))
    (changes_before tracked ops past replica listed next (op.LwwRead list) refl)) in
    let count_is : count_of solver ≡ n + 1 =
    c.in_ok-solver.ensures.count ∙ c.labels.ensures ∙ (next (op.LwwRead []) refl).labels in
    let all_is : solver.conditions.items ≡ conditions ++ order_condition newest previous n ∷ [] =
    c.in_ok-solver.ensures.conditions ∙ c.in_ok-conditions.ensures
    ∙ ap (λ xs. conditions ++ order_condition xs previous read ∷ []) c.deref.ensures.value
    ∙ ap (λ k. conditions ++ order_condition newest previous k ∷ []) (sym is) in
    let sorted = subst (λ k. AreStandings ops k (conditions ++ order_condition newest previous n ∷ []) seen asked
    seen.elements.items found) count_is
    (subst (λ cs. AreStandings ops (count_of solver) cs seen asked seen.elements.items found) all_is
    c.in_ok-found.ensures.sorted) in
    found_of past.records ops listed of_kind replica newest previous conditions below are last seen seen_are explained
    c.in_ok-asked.asked c.in_ok-asked.ensures.full c.in_ok-asked.ensures.contested found sorted

pub returns-clause-first : goal.returns-clause-first
returns-clause-first c =
    let solver = c.in_ok-solver.solver in
    let seen = c.in_ok-seen.seen in
    first_asked (operations_in c.args.operations.now) (count_of solver) solver.conditions.items seen c.in_ok-asked.asked
    seen.elements.items (take MOST_ASKED c.args.first.now) c.in_ok-found.found c.in_ok-found.ensures.sorted
    c.in_ok-asked.ensures.first
