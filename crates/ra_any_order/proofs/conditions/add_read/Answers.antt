use Rattle.std.proofs.Common.{◌≡◌, ℕ, ◌<◌, List, Option, Some, false, refl, sym, ap, subst, ◌∙◌}
use Rattle.std.proofs.lemmas.Option.{same_Some, none-some}
use Rattle.std.proofs.lemmas.Result.{IfOk-weaker}
use Rattle.ra_labels.specs.declared.operation.Op.{Op}
use Rattle.ra_labels.specs.declared.operation.Op.TheVariants as op
use Rattle.ra_labels.specs.Places.{issuer_of}
use Rattle.ra_labels.specs.Records.{label_count}
use Rattle.ra_visibility.specs.Tracked.{labels_in}
use Rattle.ra_any_order.specs.Outcomes.{IsOutcome}
use Rattle.ra_any_order.specs.Situation.{operations_in}
use Rattle.ra_any_order.proofs.ReadOutcomes.{value_outcome, value_outcome_named, other_outcome, view_later}
use Rattle.ra_any_order.proofs.LabelConditions.{is_read}
use Rattle.ra_any_order.proofs.conditions.add_read.Goals as goal

no_read : (operation : Op) → ((value : Option ℕ) → ¬ (operation ≡ op.Last value))
    → ((list : List ℕ) → ¬ (operation ≡ op.LwwRead list)) → is_read operation ≡ false
no_read (op.Last value) not_value not_list = absurd (not_value value refl)
no_read (op.LwwRead list) not_value not_list = absurd (not_list list refl)
no_read _ not_value not_list = refl

pub returns-in-Last-clause-named : goal.returns-in-Last-clause-named
returns-in-Last-clause-named c = IfOk-weaker c.add_value.result _ _ (λ outcome it.
    value_outcome_named (operations_in c.args.operations.now) c.args.newest.now (labels_in c.args.tracker.now.now)
    c.in-Last.value c.args.conditions.now.items c.add_value.new.conditions.items outcome it) c.add_value.ensures

pub returns-in-Last-clause-outcome : goal.returns-in-Last-clause-outcome
returns-in-Last-clause-outcome c = IfOk-weaker c.add_value.result _ _ (λ outcome it past stands previous view kept are operation is.
    let ops = operations_in c.args.operations.now in
    let n = c.args.label in
    let below : n < label_count past.records = subst (λ k. n < k) stands.visibility.labels c.requires.label in
    let read = c.in-Some.ensures ∙ ap Some c.in-Last.is in
    subst (λ o. IsOutcome past.records n o c.args.conditions.now.items c.add_value.new.conditions.items outcome)
    (same_Some (op.Last c.in-Last.value) operation (sym read ∙ is))
    (value_outcome past.records ops stands.listed past.kind stands.of_kind n below c.in-Last.value read
    c.args.newest.now are c.args.conditions.now.items c.add_value.new.conditions.items outcome it)) c.add_value.ensures

pub returns-in-LwwRead-clause-view : goal.returns-in-LwwRead-clause-view
returns-in-LwwRead-clause-view c = IfOk-weaker c.add_elements.result _ _ (λ outcome it past stands previous view.
    it past stands previous view c.in-LwwRead.field-0
    (c.in-Some.ensures ∙ ap Some c.in-LwwRead.is)) c.add_elements.ensures.view

pub returns-in_default : goal.returns-in_default
returns-in_default c = record {
  below = c.requires.view;
  named = λ named low. named;
  view = λ past stands previous view.
      view_later past.records (operations_in c.args.operations.now) (issuer_of past.records c.args.label) c.args.label
      c.args.view.now view;
  outcome = λ past stands previous view kept are operation is. absurd (none-some operation (sym c.in_default.ensures ∙ is));
}

pub returns-in_default-operation : goal.returns-in_default-operation
returns-in_default-operation c = record {
  below = c.requires.view;
  named = λ named low. named;
  view = λ past stands previous view.
      view_later past.records (operations_in c.args.operations.now) (issuer_of past.records c.args.label) c.args.label
      c.args.view.now view;
  outcome = λ past stands previous view kept are operation is.
      other_outcome past.records c.args.label operation c.args.conditions.now.items
      (subst (λ o. is_read o ≡ false) (same_Some c.in-Some.operation.now operation (sym c.in-Some.ensures ∙ is))
      (no_read c.in-Some.operation.now c.in_default-operation.not-Last c.in_default-operation.not-LwwRead));
}
