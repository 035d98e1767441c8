use Rattle.std.proofs.Common.{◌≡◌, ℕ, ◌<◌, length, true, sym, ap, subst, ◌∙◌}
use Rattle.std.specs.Prelude.{is_some}
use Rattle.ra_reported.specs.Reported.{reported_in, operation_at}
use Rattle.ra_another_order.proofs.ReportedLabels.{operation_reported}
use Rattle.ra_another_order.proofs.labels.Labels.of.Goals as goal

pub operations_of-requires : goal.operations_of-requires
operations_of-requires c =
    let found = c.in_ok-reported in
    let log = c.args.log.now in
    subst (λ places. (n : ℕ) → n < length places → is_some (operation_at log places n) ≡ true)
    (sym c.as_slice.ensures.value)
    (operation_reported log found.reported.places.items (reported_in c.args.kind c.args.replicas log).records
    found.ensures.count found.ensures.operations)

pub returns : goal.returns
returns c = record {
  visibility = c.in_ok-reported.ensures.visibility;
  count = c.in_ok-reported.ensures.count;
  places = c.in_ok-reported.ensures.places;
  operations =
      λ n. c.in_ok-operations.ensures n
      ∙ ap (λ places. operation_at c.args.log.now places n) c.as_slice.ensures.value
      ∙ c.in_ok-reported.ensures.operations n;
}
