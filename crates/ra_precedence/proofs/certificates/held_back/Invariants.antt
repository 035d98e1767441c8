use Rattle.std.specs.Prelude.{take}
use Rattle.ra_precedence.specs.Certificates.{AreHeldBack}
use Rattle.ra_precedence.proofs.certificates.held_back.Given as goal

abbrev pub invariant-loop-condition : goal.invariant-loop-condition
invariant-loop-condition l = AreHeldBack (take l.condition-index l.conditions) l.marks l.held.items
