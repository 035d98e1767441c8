use Rattle.std.specs.Prelude.{take}
use Rattle.ra_precedence.specs.Positions.{IsLastPosition}
use Rattle.ra_precedence.proofs.checking.last_position.Given as goal

abbrev pub invariant-loop-label : goal.invariant-loop-label
invariant-loop-label l = IsLastPosition l.positions (take l.label-index l.labels) l.last
