use Rattle.std.proofs.Common.{sym, subst, ◌∙◌}
use Rattle.std.proofs.lemmas.Bool.{false≢true}
use Rattle.ra_labels.specs.declared.kind.Kind.TheVariants.{Rga}
use Rattle.ra_theorems.proofs.TheoremIndex.{linearization_by_visibility}
use Rattle.ra_precedence.specs.Conditions.{HasEachBelow, MeetsAll}
use Rattle.ra_some_order.specs.SomeOrder.{EachLabelIsOfKind}
use Rattle.ra_rga_conditions.proofs.TheoremIndex.{label_order_iff}
use Rattle.ra_rga_precedence.specs.Answers.{AreDemands}
use Rattle.ra_rga_precedence.proofs.Conclusions.{keeps_meets}
use Rattle.ra_rga_precedence.proofs.checks.meets_demands.Goals as goal

pub returns-in-Conditions : goal.returns-in-Conditions
returns-in-Conditions c = λ past stands turn.
    let order = c.args.order.now in
    let conditions = c.in-Conditions.conditions.items in
    let of_kind = subst (λ kind. EachLabelIsOfKind kind past.records) stands.kind stands.of_kind in
    let count = c.labels.ensures ∙ stands.visibility.labels in
    let (plain, demanded, enough) = subst (AreDemands past.records) c.in-Conditions.is
    (c.in_ok-conditions.ensures.demands past stands) in
    let checked = c.in_ok-meets-in-Conditions.ensures in (
      (λ is.
          let (each, meets) = checked.0 is in
          (label_order_iff past.records order of_kind).1 (
            plain,
            turn,
            enough order turn.each (subst (MeetsAll order) c.deref.ensures.value meets),
          )),
      (λ explains.
          let (holds, turned, keeps) = (label_order_iff past.records order of_kind).0 explains in
          checked.1 (
            subst (λ k. HasEachBelow k order) (sym count) turn.each,
            subst (MeetsAll order) (sym c.deref.ensures.value) (keeps_meets past.records conditions demanded order keeps),
          )),
    )

pub returns : goal.returns
returns c = λ past stands turn. (
  (λ is. absurd (false≢true is)),
  (λ (each, (sequence, linearizes, order_is)).
      let (reason, none) = subst (AreDemands past.records) c.in-Refuted.is (c.in_ok-conditions.ensures.demands past stands) in
      absurd (none sequence (linearization_by_visibility Rga past.records sequence linearizes))),
)
