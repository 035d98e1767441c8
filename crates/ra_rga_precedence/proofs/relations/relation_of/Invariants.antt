use Rattle.std.proofs.Common.{◌+◌}
use Rattle.ra_rga_precedence.specs.Relations.{rank_of}
use Rattle.ra_rga_precedence.proofs.Climbing.{AreClimbing}
use Rattle.ra_rga_precedence.proofs.relations.relation_of.Given as goal

abbrev pub invariant-loop-upper : goal.invariant-loop-upper
invariant-loop-upper l = AreClimbing l.needed l.ranks l.first l.second l.left l.right l.upper l.lower

abbrev pub decreases-loop-upper : goal.decreases-loop-upper
decreases-loop-upper l = rank_of l.ranks l.upper + rank_of l.ranks l.lower
