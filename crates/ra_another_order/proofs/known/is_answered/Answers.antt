use Rattle.std.proofs.Common.{◌≡◌, Some, ◌-◌, sym, ap, subst, ◌∙◌}
use Rattle.std.specs.Prelude.{slice_get}
use Rattle.ra_some_order.specs.SomeOrder.{SomeOrderExplains}
use Rattle.ra_another_order.specs.Extent.{records_at}
use Rattle.ra_another_order.proofs.KnownExtents.{yes_explains, end_behind_place}
use Rattle.ra_another_order.proofs.known.is_answered.Goals as goal

pub returns-in-Some : goal.returns-in-Some
returns-in-Some c = λ said.
    let setup = c.args.setup.now in
    let log = c.args.log.now in
    let places = c.args.labels.now.places.items in
    let place = c.in-Some.place in
    let (entry, there, yes_said) = c.is_yes_at.ensures said in
    let at : slice_get places (c.args.label - 1) ≡ Some place =
    ap (λ ps. slice_get ps (c.args.label - 1)) (sym c.as_slice.ensures.value) ∙ sym c.place_of.ensures ∙ c.in-Some.is in
    subst (λ k. SomeOrderExplains setup.kind (records_at setup.kind setup.replicas log k))
    (sym (end_behind_place places c.args.label place c.if-label-eq0.false at))
    (yes_explains setup log c.requires.legal place entry there yes_said)
