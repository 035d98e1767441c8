use Rattle.std.specs.Prelude.{take}
use Rattle.ra_precedence.specs.Certificates.{AreAmong}
use Rattle.ra_precedence.proofs.certificates.mark_all.Given as goal

abbrev pub invariant-loop-label : goal.invariant-loop-label
invariant-loop-label l = AreAmong (take l.label-index l.labels) l.fn.marks.items l.marks.items
