use Rattle.std.proofs.Common.{ℕ}
use Rattle.std.specs.Prelude.{◌⊎◌, Contains}
use Rattle.ra_rga_precedence.specs.Nearest.{IsTurned}
use Rattle.ra_rga_precedence.proofs.turned.add_turned.Given as goal

abbrev pub invariant-loop-pair : goal.invariant-loop-pair
invariant-loop-pair l = (place : ℕ) → Contains l.places.items place
    → Contains l.fn.places.items place ⊎ IsTurned l.list l.other place
