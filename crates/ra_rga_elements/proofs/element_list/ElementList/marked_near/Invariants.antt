use Rattle.ra_rga_elements.specs.Chunks.{joined}
use Rattle.ra_rga_elements.proofs.ElementOrder.{IsOnTheWay}
use Rattle.ra_rga_elements.proofs.element_list.ElementList.marked_near.Given as goal

abbrev pub invariant-loop-step : goal.invariant-loop-step
invariant-loop-step l = IsOnTheWay l.self-inside.elements.items (joined l.self-inside.chunks.items) l.fn.behind l.found
