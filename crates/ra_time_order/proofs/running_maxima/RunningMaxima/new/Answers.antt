use Rattle.std.proofs.Common.{arith}
use Rattle.ra_time_order.proofs.Members.{kept_at_first}
use Rattle.ra_time_order.proofs.running_maxima.RunningMaxima.new.Goals as goal

pub invariant_of-result : goal.invariant_of-result
invariant_of-result c =
    kept_at_first c.loop.members.items c.loop.counter c.loop.invariant.stamps
    (omega (arith, c.requires, c.loop-test.false))
    (omega (arith, c.loop.auto.counter-end, c.ranges.replicas.fits))
    c.loop.invariant.room
