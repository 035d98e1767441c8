use Rattle.std.specs.Prelude.{take}
use Rattle.ra_precedence.proofs.DistinctLabels.{AreDistinct}
use Rattle.ra_precedence.proofs.solver.distinct.Given as goal

abbrev pub invariant-loop-label : goal.invariant-loop-label
invariant-loop-label l = AreDistinct l.marks.items l.labels.items (take l.label-index l.set) l.count
