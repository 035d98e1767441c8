use Rattle.std.proofs.Common.{sym, subst}
use Rattle.ra_precedence.specs.Conditions.{IsStuck}
use Rattle.ra_precedence.specs.Reasons.{AreReasons}
use Rattle.ra_some_order.specs.SomeOrder.{EachLabelIsOfKind}
use Rattle.ra_rga_precedence.specs.declared.answer.Refutation.TheVariants.{Stuck}
use Rattle.ra_rga_precedence.specs.Answers.{AreDemands, IsReason}
use Rattle.ra_rga_precedence.proofs.Reasons.{reason_final}
use Rattle.ra_rga_precedence.proofs.checks.refutes.Goals as goal

pub returns-in_ok-stuck-in-Conditions-Stuck : goal.returns-in_ok-stuck-in-Conditions-Stuck
returns-in_ok-stuck-in-Conditions-Stuck c = λ past stands is.
    let of_kind = subst (λ kind. EachLabelIsOfKind kind past.records) stands.kind stands.of_kind in
    let conditions = c.in-Conditions-Stuck.conditions.items in
    let set = c.in-Conditions-Stuck.set in
    let (plain, demanded, enough) = subst (AreDemands past.records) c.in-Conditions-Stuck.is-0
    (c.in_ok-conditions.ensures.demands past stands) in
    let shown : IsReason past.records (Stuck set) = (
      conditions,
      demanded,
      subst (λ cs. IsStuck cs set.labels.items) c.deref.ensures.value (c.in_ok-stuck-in-Conditions-Stuck.ensures.stuck is),
      subst (λ cs. AreReasons cs set.reasons.items) c.deref.ensures.value
          (c.in_ok-stuck-in-Conditions-Stuck.ensures.reasons is),
    ) in (
      subst (IsReason past.records) (sym c.in-Conditions-Stuck.is-1) shown,
      reason_final past.records of_kind (Stuck set) shown,
    )

pub returns-in_ok-stuck-in-Refuted-Stuck : goal.returns-in_ok-stuck-in-Refuted-Stuck
returns-in_ok-stuck-in-Refuted-Stuck c = λ past stands is.
    let of_kind = subst (λ kind. EachLabelIsOfKind kind past.records) stands.kind stands.of_kind in
    let conditions = c.in_ok-conditions-in-Refuted-Stuck.conditions.items in
    let set = c.in-Refuted-Stuck.set in
    let shown : IsReason past.records (Stuck set) = (
      conditions,
      c.in_ok-conditions-in-Refuted-Stuck.ensures past stands,
      subst (λ cs. IsStuck cs set.labels.items) c.deref-in-Refuted-Stuck.ensures.value
          (c.in_ok-stuck-in-Refuted-Stuck.ensures.stuck is),
      subst (λ cs. AreReasons cs set.reasons.items) c.deref-in-Refuted-Stuck.ensures.value
          (c.in_ok-stuck-in-Refuted-Stuck.ensures.reasons is),
    ) in (
      subst (IsReason past.records) (sym c.in-Refuted-Stuck.is-1) shown,
      reason_final past.records of_kind (Stuck set) shown,
    )
