use Rattle.std.proofs.Common.{◌≡◌, ◌∙◌, ◌↔◌, ◌+◌, ◌++◌, ◌∷◌, None, [], take, length, ap, sym, subst}
use Rattle.std.specs.Prelude.{Contains}
use Rattle.std.proofs.lemmas.Bool.{eqb-true, eqb-false}
use Rattle.std.proofs.lemmas.List.{take_all}
use Rattle.ra_any_order.specs.PossibleValues.{IsValueAmong}
use Rattle.ra_any_order.specs.Situation.{operations_in}
use Rattle.ra_any_order.proofs.LastWrites.{none_written, some_written, one_more_value, no_more_value}
use Rattle.ra_any_order.proofs.PossibleValues.{no_length}
use Rattle.ra_any_order.proofs.next_read.values_of.Goals as goal
use Rattle.ra_any_order.proofs.next_read.values_of.Goals.{then-is_empty+in_ok-push, else-is_empty, in-Some+in_ok-push-2, in_default}

pub loop-label-init : goal.loop-label-init
loop-label-init c =
    let ops = operations_in c.args.operations.now in
    let newest = c.args.newest.now in
    elim c.if-is_empty.branch [
      | then-is_empty+in_ok-push w ↦ λ v.
          let items : c.if-is_empty.values.items ≡ None ∷ [] =
          ap (λ it. it.items) w.values-is ∙ w.in_ok-push.ensures.items ∙ ap (λ xs. xs ++ None ∷ []) c.new-values.ensures.items in
          let empty : newest ≡ [] = no_length newest (eqb-true (length newest) 0 (sym c.is_empty.ensures ∙ w.if-is_empty.true)) in
          subst (λ xs. Contains xs v ↔ IsValueAmong ops newest [] v) (sym items) (none_written ops newest empty v)
      | else-is_empty w ↦ λ v.
          let items : c.if-is_empty.values.items ≡ [] = ap (λ it. it.items) w.values-is ∙ c.new-values.ensures.items in
          let some : ¬ (newest ≡ []) = λ empty. eqb-false (length newest) 0 (sym c.is_empty.ensures ∙ w.if-is_empty.false) (ap length empty) in
          subst (λ xs. Contains xs v ↔ IsValueAmong ops newest [] v) (sym items) (some_written ops newest some v)
    ]

pub loop-label-preserved : goal.loop-label-preserved
loop-label-preserved c =
    let ops = operations_in c.args.operations.now in
    let newest = c.args.newest.now in
    let lasts = c.args.lasts.now in
    let i = c.loop-label.label-index in
    elim c.match-written_value.branch [
      | in-Some+in_ok-push-2 w ↦ λ v.
          subst (λ xs. Contains xs v ↔ IsValueAmong ops newest (take (i + 1) lasts) v)
          (sym (ap (λ it. it.items) w.values-is ∙ w.in_ok-push-2.ensures.items))
          (one_more_value ops newest lasts c.loop-label.values.items i c.loop-label-test.true c.loop-label.invariant
          w.in-Some.value (sym c.written_value.ensures ∙ w.in-Some.is) v)
      | in_default w ↦ λ v.
          subst (λ xs. Contains xs v ↔ IsValueAmong ops newest (take (i + 1) lasts) v)
          (sym (ap (λ it. it.items) w.values-is))
          (no_more_value ops newest lasts c.loop-label.values.items i c.loop-label-test.true c.loop-label.invariant
          (sym c.written_value.ensures ∙ w.in_default.is) v)
    ]

pub returns : goal.returns
returns c = λ v. subst (λ xs. Contains c.loop-label.values.items v ↔ IsValueAmong (operations_in c.args.operations.now) c.args.newest.now xs v)
    (take_all c.loop-label.label-index c.args.lasts.now c.loop-label-test.false) (c.loop-label.invariant v)
