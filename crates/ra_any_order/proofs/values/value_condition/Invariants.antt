use Rattle.std.proofs.Common.{◌≡◌, filter, take}
use Rattle.ra_any_order.specs.Situation.{operations_in}
use Rattle.ra_any_order.specs.Reading.{passes_at}
use Rattle.ra_some_order.specs.VisibleUpdates.{writes, writes_other}
use Rattle.ra_any_order.proofs.values.value_condition.Given as goal

abbrev pub invariant-loop-label : goal.invariant-loop-label
invariant-loop-label l = record {
  before : l.before.items ≡ filter (passes_at (operations_in l.operations) (writes_other l.value)) (take l.label-index l.labels);
  after : l.after.items ≡ filter (passes_at (operations_in l.operations) (writes l.value)) (take l.label-index l.labels);
}
