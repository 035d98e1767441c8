use Rattle.std.specs.Prelude.{take}
use Rattle.ra_precedence.specs.Lasts.{AreOpenOnce}
use Rattle.ra_precedence.proofs.solver.open_once.Given as goal

abbrev pub invariant-loop-label : goal.invariant-loop-label
invariant-loop-label l = AreOpenOnce l.numbers (take l.label-index l.set) l.found.items
