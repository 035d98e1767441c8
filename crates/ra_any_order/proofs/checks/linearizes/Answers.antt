use Rattle.std.proofs.Common.{◌∙◌, sym, subst}
use Rattle.std.proofs.lemmas.Bool.{false≢true}
use Rattle.ra_precedence.specs.Conditions.{HasEachBelow, MeetsAll}
use Rattle.ra_any_order.specs.Found.{IsFound}
use Rattle.ra_any_order.proofs.Conclusions.{order_explains, explaining_meets, impossible_refutes}
use Rattle.ra_theorems.proofs.TheoremIndex.{linearization_by_visibility}
use Rattle.ra_any_order.proofs.checks.linearizes.Goals as goal

pub returns-in_ok-meets-in-Conditions : goal.returns-in_ok-meets-in-Conditions
returns-in_ok-meets-in-Conditions c = λ past stands.
    let count = c.labels.ensures ∙ stands.visibility.labels in
    let conditions = c.in-Conditions.conditions.items in
    let order = c.args.order.now in
    let are = subst (IsFound past.records) c.in-Conditions.is (c.in_ok-conditions.ensures.found past stands) in
    let checked = c.in_ok-meets-in-Conditions.ensures in (
      (λ is.
          let (each, meets) = checked.0 is in
          order_explains past.records conditions are past.kind stands.kind stands.of_kind order
          (subst (λ k. HasEachBelow k order) count each)
          (subst (MeetsAll order) c.deref.ensures.value meets)),
      (λ explains. checked.1 (
        subst (λ k. HasEachBelow k order) (sym count) explains.0,
        subst (MeetsAll order) (sym c.deref.ensures.value)
            (explaining_meets past.records conditions are past.kind stands.kind stands.of_kind order explains),
      )),
    )

pub returns-in-Impossible : goal.returns-in-Impossible
returns-in-Impossible c = λ past stands.
    let impossible = subst (IsFound past.records) c.in-Impossible.is (c.in_ok-conditions.ensures.found past stands) in (
      (λ is. absurd (false≢true is)),
      (λ (each, (sequence, linearizes, order_is)). absurd (impossible_refutes past.kind stands.kind past.records
          stands.of_kind c.in-Impossible.label c.in-Impossible.element impossible sequence
          (linearization_by_visibility past.kind past.records sequence linearizes))),
    )
