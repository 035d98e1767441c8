use Rattle.std.proofs.Common.{◌∙◌, None, refl, sym, subst}
use Rattle.ra_labels.specs.HistorySoFar.{next_operation}
use Rattle.ra_some_order.specs.SomeOrder.{SomeOrderExplains, EachLabelIsOfKind}
use Rattle.ra_visibility.specs.Tracked.{labels_in}
use Rattle.ra_any_order.specs.Found.{IsFound, NamesBelow}
use Rattle.ra_any_order.specs.Requirements.{AreConditionsBelow, NameBelow}
use Rattle.ra_any_order.proofs.Conclusions.{not_explained}
use Rattle.ra_any_order.proofs.next_read.possible_values.Goals as goal

pub returns-in_default : goal.returns-in_default
returns-in_default c = λ past stands register explained v.
    let impossible = subst (IsFound past.records) c.in_default.is (c.in_ok-conditions.ensures.found past stands) in
    absurd (not_explained past.kind stands.kind past.records stands.of_kind c.in_default.field-0 c.in_default.field-1
    impossible (subst (λ k. SomeOrderExplains k past.records) (sym register) explained))

pub values_at-requires-clause-named : goal.values_at-requires-clause-named
values_at-requires-clause-named c =
    subst (λ k. NameBelow k c.in-Conditions.conditions.items) (sym c.in_ok-read.ensures.number)
    (subst (NamesBelow (labels_in c.args.tracker.now)) c.in-Conditions.is c.in_ok-conditions.ensures.named)

pub returns : goal.returns
returns c = λ past stands register some v.
    let number = sym stands.visibility.labels ∙ sym c.in_ok-read.ensures.number in
    let kept = subst (λ k. AreConditionsBelow past.records k c.in-Conditions.conditions.items) number
    (subst (IsFound past.records) c.in-Conditions.is (c.in_ok-conditions.ensures.found past stands)) in
    c.in_ok-values.ensures past c.args.replica number
    (subst (λ k. EachLabelIsOfKind k past.records) register stands.of_kind)
    (λ it reads. c.in_ok-read.ensures.stands past (next_operation c.args.replica it None) stands.visibility refl reads)
    stands.listed kept some v
