use Rattle.std.proofs.Common.{below_more}
use Rattle.ra_list_order.proofs.gathering.are_behind.Goals as goal

pub loop-element-preserved : goal.loop-element-preserved
loop-element-preserved c =
    below_more _ _ c.loop-element.invariant (c.is_behind.ensures c.if-not-is_behind.false)
