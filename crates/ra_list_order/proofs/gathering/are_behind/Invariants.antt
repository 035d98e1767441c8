use Rattle.std.proofs.Common.{ℕ, ◌<◌, get_or}
use Rattle.std.specs.Prelude.{Contains}
use Rattle.ra_list_order.specs.Gathering.{right_of}
use Rattle.ra_list_order.proofs.gathering.are_behind.Given as goal

abbrev pub invariant-loop-element : goal.invariant-loop-element
invariant-loop-element l = (k : ℕ) → k < l.element-index
    → Contains (right_of l.order l.cut.chunk l.cut.index) (get_or l.elements k 0)
