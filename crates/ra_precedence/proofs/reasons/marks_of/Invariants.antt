use Rattle.ra_precedence.specs.Reasons.{AreMarked}
use Rattle.ra_precedence.proofs.reasons.marks_of.Given as goal

abbrev pub invariant-loop-held : goal.invariant-loop-held
invariant-loop-held l = AreMarked l.reasons l.marks.items
