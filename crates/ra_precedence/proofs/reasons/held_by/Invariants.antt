use Rattle.ra_precedence.specs.Reasons.{AreHeld}
use Rattle.ra_precedence.proofs.reasons.held_by.Given as goal

abbrev pub invariant-loop-pick : goal.invariant-loop-pick
invariant-loop-pick l = AreHeld l.conditions l.reasons.items
