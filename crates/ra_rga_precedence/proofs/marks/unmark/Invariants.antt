use Rattle.std.proofs.Common.{take}
use Rattle.ra_rga_precedence.specs.Marks.{AreUnmarked}
use Rattle.ra_rga_precedence.proofs.marks.unmark.Given as goal

abbrev pub invariant-loop-label : goal.invariant-loop-label
invariant-loop-label l = AreUnmarked l.fn.marks.items (take l.label-index l.labels) l.marks.items
