use Rattle.std.specs.Prelude.{◌↔◌, ℕ, Option, take, Contains}
use Rattle.ra_any_order.specs.PossibleValues.{IsValueAmong}
use Rattle.ra_any_order.specs.Situation.{operations_in}
use Rattle.ra_any_order.proofs.next_read.values_of.Given as goal

abbrev pub invariant-loop-label : goal.invariant-loop-label
invariant-loop-label l = (v : Option ℕ) → Contains l.values.items v
    ↔ IsValueAmong (operations_in l.operations) l.newest (take l.label-index l.lasts) v
