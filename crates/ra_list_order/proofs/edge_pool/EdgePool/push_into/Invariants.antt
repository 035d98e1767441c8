use Rattle.ra_list_order.proofs.EdgesInto.{IsWalkingInto}
use Rattle.ra_list_order.proofs.edge_pool.EdgePool.push_into.Given as goal

abbrev pub invariant-loop-at : goal.invariant-loop-at
invariant-loop-at l = IsWalkingInto l.fn.element l.self-inside.edges.items l.fn.walked.items l.walked.items l.at

abbrev pub decreases-loop-at : goal.decreases-loop-at
decreases-loop-at l = l.at
