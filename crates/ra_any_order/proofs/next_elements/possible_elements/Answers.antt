use Rattle.std.proofs.Common.{◌∙◌, None, refl, sym, ap, subst}
use Rattle.std.specs.Prelude.{Contains}
use Rattle.ra_labels.specs.HistorySoFar.{next_operation}
use Rattle.ra_labels.specs.Lists.{rises}
use Rattle.ra_labels.proofs.Members.{none_there}
use Rattle.ra_visibility.specs.Tracked.{labels_in}
use Rattle.ra_some_order.specs.SomeOrder.{SomeOrderExplains, EachLabelIsOfKind}
use Rattle.ra_any_order.specs.Found.{IsFound, NamesBelow}
use Rattle.ra_any_order.specs.Requirements.{AreConditionsBelow, NameBelow}
use Rattle.ra_any_order.proofs.Conclusions.{not_explained}
use Rattle.ra_any_order.proofs.next_elements.possible_elements.Goals as goal

pub elements_at-requires-clause-named : goal.elements_at-requires-clause-named
elements_at-requires-clause-named c =
    subst (λ k. NameBelow k c.in-Conditions.conditions.items) (sym c.in_ok-read.ensures.number)
    (subst (NamesBelow (labels_in c.args.tracker.now)) c.in-Conditions.is c.in_ok-conditions.ensures.named)

pub returns-in_default-clause-some : goal.returns-in_default-clause-some
returns-in_default-clause-some c = λ past stands kind explained.
    let impossible = subst (IsFound past.records) c.in_default.is (c.in_ok-conditions.ensures.found past stands) in
    absurd (not_explained past.kind stands.kind past.records stands.of_kind c.in_default.field-0 c.in_default.field-1
    impossible (subst (λ k. SomeOrderExplains k past.records) (sym kind) explained))

pub returns-in_default-clause-listed : goal.returns-in_default-clause-listed
returns-in_default-clause-listed c = λ past stands kind explained.
    let impossible = subst (IsFound past.records) c.in_default.is (c.in_ok-conditions.ensures.found past stands) in
    absurd (not_explained past.kind stands.kind past.records stands.of_kind c.in_default.field-0 c.in_default.field-1
    impossible (subst (λ k. SomeOrderExplains k past.records) (sym kind) explained))

pub returns-in_default-clause-undecided : goal.returns-in_default-clause-undecided
returns-in_default-clause-undecided c = λ past stands kind explained.
    let impossible = subst (IsFound past.records) c.in_default.is (c.in_ok-conditions.ensures.found past stands) in
    absurd (not_explained past.kind stands.kind past.records stands.of_kind c.in_default.field-0 c.in_default.field-1
    impossible (subst (λ k. SomeOrderExplains k past.records) (sym kind) explained))

pub returns-in_default-clause-others : goal.returns-in_default-clause-others
returns-in_default-clause-others c = λ past stands kind explained.
    let impossible = subst (IsFound past.records) c.in_default.is (c.in_ok-conditions.ensures.found past stands) in
    absurd (not_explained past.kind stands.kind past.records stands.of_kind c.in_default.field-0 c.in_default.field-1
    impossible (subst (λ k. SomeOrderExplains k past.records) (sym kind) explained))

pub returns-in_default-clause-contested : goal.returns-in_default-clause-contested
returns-in_default-clause-contested c = λ past stands kind explained.
    let impossible = subst (IsFound past.records) c.in_default.is (c.in_ok-conditions.ensures.found past stands) in
    absurd (not_explained past.kind stands.kind past.records stands.of_kind c.in_default.field-0 c.in_default.field-1
    impossible (subst (λ k. SomeOrderExplains k past.records) (sym kind) explained))

pub returns-in_default-clause-first : goal.returns-in_default-clause-first
returns-in_default-clause-first c = λ x there its.
    none_there x (subst (λ xs. Contains xs x) c.no_elements.ensures.2 its)

pub returns-in_default-clause-rising : goal.returns-in_default-clause-rising
returns-in_default-clause-rising c =
    let none = c.no_elements.ensures in (ap rises none.0, ap rises none.1, ap rises none.2)

pub returns-clause-some : goal.returns-clause-some
returns-clause-some c = λ past stands kind explained.
    let number = sym stands.visibility.labels ∙ sym c.in_ok-read.ensures.number in
    let kept = subst (λ k. AreConditionsBelow past.records k c.in-Conditions.conditions.items) number
    (subst (IsFound past.records) c.in-Conditions.is (c.in_ok-conditions.ensures.found past stands)) in
    (c.in_ok-found.ensures.found past c.args.replica number
    (subst (λ k. EachLabelIsOfKind k past.records) kind stands.of_kind)
    (λ it reads. c.in_ok-read.ensures.stands past (next_operation c.args.replica it None) stands.visibility refl reads)
    stands.listed kept explained).some

pub returns-clause-listed : goal.returns-clause-listed
returns-clause-listed c = λ past stands kind explained.
    let number = sym stands.visibility.labels ∙ sym c.in_ok-read.ensures.number in
    let kept = subst (λ k. AreConditionsBelow past.records k c.in-Conditions.conditions.items) number
    (subst (IsFound past.records) c.in-Conditions.is (c.in_ok-conditions.ensures.found past stands)) in
    (c.in_ok-found.ensures.found past c.args.replica number
    (subst (λ k. EachLabelIsOfKind k past.records) kind stands.of_kind)
    (λ it reads. c.in_ok-read.ensures.stands past (next_operation c.args.replica it None) stands.visibility refl reads)
    stands.listed kept explained).listed

pub returns-clause-undecided : goal.returns-clause-undecided
returns-clause-undecided c = λ past stands kind explained.
    let number = sym stands.visibility.labels ∙ sym c.in_ok-read.ensures.number in
    let kept = subst (λ k. AreConditionsBelow past.records k c.in-Conditions.conditions.items) number
    (subst (IsFound past.records) c.in-Conditions.is (c.in_ok-conditions.ensures.found past stands)) in
    (c.in_ok-found.ensures.found past c.args.replica number
    (subst (λ k. EachLabelIsOfKind k past.records) kind stands.of_kind)
    (λ it reads. c.in_ok-read.ensures.stands past (next_operation c.args.replica it None) stands.visibility refl reads)
    stands.listed kept explained).undecided

pub returns-clause-others : goal.returns-clause-others
returns-clause-others c = λ past stands kind explained.
    let number = sym stands.visibility.labels ∙ sym c.in_ok-read.ensures.number in
    let kept = subst (λ k. AreConditionsBelow past.records k c.in-Conditions.conditions.items) number
    (subst (IsFound past.records) c.in-Conditions.is (c.in_ok-conditions.ensures.found past stands)) in
    (c.in_ok-found.ensures.found past c.args.replica number
    (subst (λ k. EachLabelIsOfKind k past.records) kind stands.of_kind)
    (λ it reads. c.in_ok-read.ensures.stands past (next_operation c.args.replica it None) stands.visibility refl reads)
    stands.listed kept explained).others

pub returns-clause-contested : goal.returns-clause-contested
returns-clause-contested c = λ past stands kind explained.
    let number = sym stands.visibility.labels ∙ sym c.in_ok-read.ensures.number in
    let kept = subst (λ k. AreConditionsBelow past.records k c.in-Conditions.conditions.items) number
    (subst (IsFound past.records) c.in-Conditions.is (c.in_ok-conditions.ensures.found past stands)) in
    (c.in_ok-found.ensures.found past c.args.replica number
    (subst (λ k. EachLabelIsOfKind k past.records) kind stands.of_kind)
    (λ it reads. c.in_ok-read.ensures.stands past (next_operation c.args.replica it None) stands.visibility refl reads)
    stands.listed kept explained).contested

pub returns-in_default-clause-full : goal.returns-in_default-clause-full
returns-in_default-clause-full c = λ past stands kind explained.
    let impossible = subst (IsFound past.records) c.in_default.is (c.in_ok-conditions.ensures.found past stands) in
    absurd (not_explained past.kind stands.kind past.records stands.of_kind c.in_default.field-0 c.in_default.field-1
    impossible (subst (λ k. SomeOrderExplains k past.records) (sym kind) explained))

pub returns-clause-full : goal.returns-clause-full
returns-clause-full c = λ past stands kind explained.
    let number = sym stands.visibility.labels ∙ sym c.in_ok-read.ensures.number in
    let kept = subst (λ k. AreConditionsBelow past.records k c.in-Conditions.conditions.items) number
    (subst (IsFound past.records) c.in-Conditions.is (c.in_ok-conditions.ensures.found past stands)) in
    (c.in_ok-found.ensures.found past c.args.replica number
    (subst (λ k. EachLabelIsOfKind k past.records) kind stands.of_kind)
    (λ it reads. c.in_ok-read.ensures.stands past (next_operation c.args.replica it None) stands.visibility refl reads)
    stands.listed kept explained).full
