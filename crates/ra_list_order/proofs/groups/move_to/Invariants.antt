use Rattle.std.proofs.Common.{take}
use Rattle.ra_list_order.specs.Chunks.{AreMovedTo, group_in}
use Rattle.ra_list_order.proofs.groups.move_to.Given as goal

abbrev pub invariant-loop-element : goal.invariant-loop-element
invariant-loop-element l =
    AreMovedTo (take l.element-index l.elements) l.group (group_in l.fn.groups.items) (group_in l.groups.items)
