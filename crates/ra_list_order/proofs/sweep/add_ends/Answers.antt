use Rattle.std.proofs.Common.{refl}
use Rattle.ra_list_order.specs.EdgePool.{no_edge}
use Rattle.ra_list_order.proofs.Ends.{ends_more}
use Rattle.ra_list_order.proofs.sweep.add_ends.Goals as goal

pub loop-edge-preserved : goal.loop-edge-preserved
loop-edge-preserved c =
    ends_more _ _ _ _ _ no_edge _ c.loop-edge-test.true refl c.loop-edge.invariant c.in_ok-insert.ensures.updates
