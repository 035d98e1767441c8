use Rattle.std.proofs.Common.{length}
use Rattle.std.specs.Prelude.{⊤}
use Rattle.ra_timing.proofs.text.plain.cut_piece.Given as goal

abbrev pub invariant-loop-at : goal.invariant-loop-at
invariant-loop-at l = ⊤

abbrev pub decreases-loop-at : goal.decreases-loop-at
decreases-loop-at l = length l.rest
