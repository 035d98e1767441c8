use Rattle.std.proofs.Common.{take}
use Rattle.ra_list_order.specs.Gathering.{AreRemoved}
use Rattle.ra_list_order.proofs.chunks.remove_all.Given as goal

abbrev pub invariant-loop-element : goal.invariant-loop-element
invariant-loop-element l = AreRemoved (take l.element-index l.elements) l.fn.chunks.items l.chunks.items
