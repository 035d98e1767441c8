use Rattle.std.proofs.Common.{◌≡◌, ◌<◌, ◌∙◌, ◌+◌, ◌++◌, ◌∷◌, None, [], refl, sym, ap, subst}
use Rattle.std.specs.Prelude.{◌↔◌, Contains}
use Rattle.ra_labels.specs.Places.{issuer_of}
use Rattle.ra_labels.specs.Records.{label_count}
use Rattle.ra_labels.specs.declared.kind.Kind.TheVariants.{Register}
use Rattle.ra_labels.specs.declared.operation.Op.TheVariants as op
use Rattle.ra_precedence.specs.Lasts.{AreLasts}
use Rattle.ra_visibility.specs.Newest.{AreNewest}
use Rattle.ra_visibility.specs.Tracked.{labels_in}
use Rattle.ra_any_order.specs.PossibleValues.{IsValueAmong}
use Rattle.ra_any_order.specs.Previous.{IsLastBelow}
use Rattle.ra_any_order.specs.Reading.{order_condition}
use Rattle.ra_any_order.specs.Requirements.{AreConditionsBelow, NameBelow}
use Rattle.ra_any_order.specs.Situation.{operations_in}
use Rattle.ra_any_order.proofs.NamedLabels.{asked_named}
use Rattle.ra_any_order.proofs.NextReads.{each_next, some_asked}
use Rattle.ra_any_order.proofs.PossibleValues.{values_exactly}
use Rattle.ra_any_order.proofs.next_read.values_at.Goals as goal

pub lasts_among-requires-clause-named : goal.lasts_among-requires-clause-named
lasts_among-requires-clause-named c =
    let count = labels_in c.args.tracker.now.now in
    let n = c.args.read in
    let conditions = c.args.conditions.items in
    let previous = c.in_ok-previous.previous in
    let all = c.in_ok-asked.ensures ∙ ap (λ xs. conditions ++ order_condition xs previous n ∷ []) c.deref.ensures.value in
    subst (λ k. NameBelow k c.in_ok-asked.asked.items) (sym c.labels.ensures)
    (subst (NameBelow count) (sym all)
    (asked_named (operations_in c.args.operations.now) c.in_ok-newest.newest.items count c.in_ok-newest.ensures.below previous
    n c.in_ok-previous.ensures.earlier c.requires.read conditions c.requires.named))

pub lasts_among-requires-clause-below : goal.lasts_among-requires-clause-below
lasts_among-requires-clause-below c = λ b there.
    subst (λ k. b < k) (sym c.labels.ensures)
    (c.in_ok-newest.ensures.below b (subst (λ xs. Contains xs b) c.deref-2.ensures.value there))

pub returns : goal.returns
returns c = λ past replica is of_kind next listed kept explained v.
    let n = label_count past.records in
    let read = c.args.read in
    let ops = operations_in c.args.operations.now in
    let newest = c.in_ok-newest.newest.items in
    let previous = c.in_ok-previous.previous in
    let conditions = c.args.conditions.items in
    let lasts = c.in_ok-lasts.lasts.items in
    let are = each_next c.args.tracker.now.now past replica next (λ records k. AreNewest records k newest) read is
    c.in_ok-newest.ensures.newest in
    let last = each_next c.args.tracker.now.now past replica next
    (λ records k. IsLastBelow records k (issuer_of records k) previous) read is c.in_ok-previous.ensures.last in
    let below = subst (λ k. AreConditionsBelow past.records k conditions) (sym is) kept in
    let some = some_asked past.records ops listed Register refl of_kind replica newest previous conditions below are last explained in
    let count_is : c.labels.result ≡ n + 1 = c.labels.ensures ∙ (next (op.Last None) refl).labels in
    let asked_is : c.in_ok-asked.asked.items ≡ conditions ++ order_condition newest previous n ∷ [] =
    c.in_ok-asked.ensures ∙ ap (λ xs. conditions ++ order_condition xs previous read ∷ []) c.deref.ensures.value
    ∙ ap (λ k. conditions ++ order_condition newest previous k ∷ []) (sym is) in
    let all = subst (λ k. AreLasts k (conditions ++ order_condition newest previous n ∷ []) newest lasts) count_is
    (subst (λ cs. AreLasts c.labels.result cs newest lasts) asked_is
    (subst (λ xs. AreLasts c.labels.result c.in_ok-asked.asked.items xs lasts) c.deref-2.ensures.value c.in_ok-lasts.ensures)) in
    let exact = values_exactly past.records ops listed of_kind replica newest previous conditions below are last lasts
    (all some) some v in
    let found = subst (λ xs. Contains c.in_ok-values.values.items v ↔ IsValueAmong ops newest xs v) c.deref-4.ensures.value
    (subst (λ xs. Contains c.in_ok-values.values.items v ↔ IsValueAmong ops xs c.deref-4.result.now v) c.deref-3.ensures.value
    (c.in_ok-values.ensures v)) in
    ((λ there. exact.0 (found.0 there)), (λ possible. found.1 (exact.1 possible)))
