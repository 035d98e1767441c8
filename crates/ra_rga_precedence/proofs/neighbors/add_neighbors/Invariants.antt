use Rattle.ra_rga_precedence.specs.Neighbors.{AreEdges}
use Rattle.ra_rga_precedence.proofs.neighbors.add_neighbors.Given as goal

abbrev pub invariant-loop-place : goal.invariant-loop-place
invariant-loop-place l = AreEdges l.needed l.labels l.fn.conditions.items l.conditions.items l.place
