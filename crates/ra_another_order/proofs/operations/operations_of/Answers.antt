use Rattle.std.proofs.Common.{◌≡◌, ◌<◌, ◌+◌, [], ◌∷◌, Some, None, length, length-append, get_or, sym, ap, subst, ◌∙◌, arith}
use Rattle.std.specs.Prelude.{MatchOption}
use Rattle.ra_another_order.specs.Operations.{operation_there}
use Rattle.ra_another_order.proofs.ListedOperations.{AreFirst, no_operation, first_more, first_all}
use Rattle.ra_another_order.proofs.operations.operations_of.Goals.{in-Some+in_ok-push, in_default}
use Rattle.ra_another_order.proofs.operations.operations_of.Goals as goal

pub loop-place-preserved : goal.loop-place-preserved
loop-place-preserved c =
    let log = c.args.log.now in
    let places = c.args.places.now in
    let l = c.loop-place in
    let i = l.place-index in
    let kept = l.invariant in
    let within : i < length places = omega (arith, c.loop-place-test.true) in
    elim c.match-operation_there.branch [
      | in-Some+in_ok-push w ↦
          let there = subst (λ o. MatchOption o (operation_there log (get_or places i 0) ≡ None)
          (λ op. operation_there log (get_or places i 0) ≡ Some op.now)) w.in-Some.is c.operation_there.ensures in
          let items = ap (λ v. v.items) w.operations-is ∙ w.in_ok-push.ensures.items in
          record {
            len = ap length items ∙ length-append l.operations.items (w.in-Some.op ∷ []) ∙ ap (λ k. k + 1) kept.len;
            are = subst (λ operations. AreFirst log places operations (i + 1)) (sym items)
                (first_more log places l.operations.items w.in-Some.op i kept.len within there kept.are);
          }
      | in_default w ↦
          absurd (no_operation log places i within (c.requires i within)
          (subst (λ o. MatchOption o (operation_there log (get_or places i 0) ≡ None)
          (λ op. operation_there log (get_or places i 0) ≡ Some op.now)) w.in_default.is c.operation_there.ensures))
    ]

pub returns : goal.returns
returns c = λ n.
    first_all c.args.log.now c.args.places.now c.loop-place.operations.items c.loop-place.place-index
    c.loop-place.invariant.len (omega (arith, c.loop-place-test.false)) c.loop-place.invariant.are n
