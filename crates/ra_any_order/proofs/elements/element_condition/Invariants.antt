use Rattle.std.proofs.Common.{◌≡◌, filter, take}
use Rattle.std.specs.Prelude.{not}
use Rattle.ra_any_order.specs.Situation.{operations_in}
use Rattle.ra_any_order.specs.Reading.{passes_at}
use Rattle.ra_any_order.specs.Elements.{leads}
use Rattle.ra_any_order.proofs.elements.element_condition.Given as goal

abbrev pub invariant-loop-label : goal.invariant-loop-label
invariant-loop-label l = record {
  before : l.before.items
      ≡ filter (passes_at (operations_in l.operations) (leads (not l.listed) l.element)) (take l.label-index l.labels);
  after : l.after.items
      ≡ filter (passes_at (operations_in l.operations) (leads l.listed l.element)) (take l.label-index l.labels);
}
