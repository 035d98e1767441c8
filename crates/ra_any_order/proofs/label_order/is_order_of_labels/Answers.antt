use Rattle.std.proofs.Common.{◌<◌, None, length, refl, ◌∙◌, sym, subst, inl, inr, arith}
use Rattle.std.specs.Prelude.{MatchOption}
use Rattle.std.proofs.lemmas.Bool.{false≢true, cases_eq}
use Rattle.std.proofs.lemmas.List.{get_or_read}
use Rattle.ra_labels.specs.Places.{issuer_of}
use Rattle.ra_precedence.specs.Conditions.{HasEachBelow}
use Rattle.ra_precedence.specs.Positions.{ArePositions}
use Rattle.ra_any_order.specs.Previous.{IsLastBelow}
use Rattle.ra_any_order.proofs.TurnOrders.{ComesInTurn, turn_order, behind_previous}
use Rattle.ra_any_order.proofs.label_order.is_order_of_labels.Goals as goal

pub returns-then-not-comes_after_seen : goal.returns-then-not-comes_after_seen
returns-then-not-comes_after_seen c = λ past stands. (
  (λ is. absurd (false≢true is)),
  (λ its.
      let order = c.args.order.now in
      let (each, are) = subst (λ it. MatchOption it (¬ HasEachBelow c.labels.result order)
      (λ positions. HasEachBelow c.labels.result order × ArePositions order positions.items)) c.in-Some.is c.in_ok-positions.ensures in
      let below = c.loop-label-test.true in
      let end = c.labels-label-end.ensures in
      let labels = stands.labels in
      sym c.if-not-comes_after_seen.true ∙ c.comes_after_seen.ensures.others past order stands
      (subst (ArePositions order) (sym c.deref-in-loop-label.ensures.value) are)
      (λ k seen. its.seen c.loop-label.label k (omega (arith, below, end, labels)) seen)),
)

pub loop-label-preserved : goal.loop-label-preserved
loop-label-preserved c = λ past stands n low.
    let order = c.args.order.now in
    let label = c.loop-label.label in
    let (each, are) = subst (λ it. MatchOption it (¬ HasEachBelow c.labels.result order)
    (λ positions. HasEachBelow c.labels.result order × ArePositions order positions.items)) c.in-Some.is c.in_ok-positions.ensures in
    let previous = c.in_ok-previous.previous.items in
    let test = c.loop-label-test.true in
    let end = c.labels-label-end.ensures in
    let within : label < length previous = let len = c.in_ok-previous.ensures.len in omega (arith, test, end, len) in
    let is = get_or_read previous label c.index.result.now within c.index.ensures None in
    elim (cases_eq n label) [
      | inr other ↦ c.loop-label.invariant past stands n (omega (arith, low, other))
      | inl here ↦ subst (ComesInTurn past.records order) (sym here) (record {
        seen = c.comes_after_seen.ensures.behind past order stands
            (subst (ArePositions order) (sym c.deref-in-loop-label.ensures.value) are) c.if-not-comes_after_seen.false;
        previous = behind_previous past.records order c.deref.result.now
            (subst (ArePositions order) (sym c.deref.ensures.value) are) label c.index.result.now
            (subst (IsLastBelow past.records label (issuer_of past.records label)) (sym is)
            (c.in_ok-previous.ensures.each past stands label (omega (arith, test, end))))
            (sym c.comes_after.ensures ∙ c.if-not-comes_after.false);
      })
    ]

pub returns : goal.returns
returns c = λ past stands.
    let order = c.args.order.now in
    let (each, are) = subst (λ it. MatchOption it (¬ HasEachBelow c.labels.result order)
    (λ positions. HasEachBelow c.labels.result order × ArePositions order positions.items)) c.in-Some.is c.in_ok-positions.ensures in
    let count = c.labels.ensures ∙ stands.labels in
    let past_end = c.loop-label-test.false in
    let end = c.labels-label-end.ensures in
    let labels = stands.labels in (
      (λ _. turn_order past.records order (subst (λ k. HasEachBelow k order) count each)
          (λ n below. c.loop-label.invariant past stands n (omega (arith, below, past_end, end, labels)))),
      (λ _. refl),
    )
