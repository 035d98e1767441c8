use Rattle.std.proofs.Common.{length}
use Rattle.ra_rga_elements.proofs.ComparedElements.{AreCompared}
use Rattle.ra_rga_elements.proofs.element_list.ElementList.lists.Given as goal

abbrev pub invariant-loop-element : goal.invariant-loop-element
invariant-loop-element l = AreCompared l.fn.self l.fn.marks l.fn.listed l.left l.behind

abbrev pub decreases-loop-element : goal.decreases-loop-element
decreases-loop-element l = length l.left
