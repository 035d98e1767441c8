use Rattle.std.proofs.Common.{◌≡◌, ◌-◌, Some, length, sym, ap, subst, ◌∙◌, arith}
use Rattle.std.specs.Prelude.{slice_get}
use Rattle.ra_another_order.proofs.KnownExtents.{explained_all, explained_but_last}
use Rattle.ra_another_order.specs.Extent.{IsExplained, records_at}
use Rattle.ra_another_order.proofs.known.known_extent.Goals as goal

pub returns-then-is_explained : goal.returns-then-is_explained
returns-then-is_explained c =
    let setup = c.args.setup.now in
    let log = c.args.log.now in
    let labels = c.requires.labels in
    explained_all setup.kind setup.replicas log c.args.labels.now.places.items labels.count labels.places c.args.end
    c.if-end-log.false c.labels-count.result
    (c.labels-count.ensures ∙ labels.visibility.labels ∙ sym labels.count)
    (subst (IsExplained setup.kind (records_at setup.kind setup.replicas log c.args.end)) c.if-is_explained.true
    c.requires.known)

pub returns-in-Some : goal.returns-in-Some
returns-in-Some c =
    let setup = c.args.setup.now in
    let log = c.args.log.now in
    let labels = c.requires.labels in
    let places = c.args.labels.now.places.items in
    let before = c.labels-count.result - 1 in
    let count_is : c.labels-count.result ≡ length places =
    c.labels-count.ensures ∙ labels.visibility.labels ∙ sym labels.count in
    let some = c.if-count-eq0.false in
    let there : slice_get places before ≡ Some c.in-Some.place =
    ap (λ ps. slice_get ps before) (sym c.as_slice.ensures.value) ∙ sym c.place_of.ensures ∙ c.in-Some.is in
    let answered = c.if-is_answered.true in
    explained_but_last setup.kind setup.replicas log places labels.count labels.places c.args.end c.if-end-log.false
    before c.in-Some.place (omega (arith, count_is, some)) there c.if-place-log.true (c.is_answered.ensures answered)
    (subst (IsExplained setup.kind (records_at setup.kind setup.replicas log c.args.end)) c.if-is_explained.false
    c.requires.known)
