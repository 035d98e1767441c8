use Rattle.std.proofs.Common.{refl}
use Rattle.ra_any_order.proofs.ElementSets.{set_more}
use Rattle.ra_any_order.proofs.elements.set_of.Goals as goal

pub loop-element-preserved : goal.loop-element-preserved
loop-element-preserved c =
    set_more c.loop-element.set c.insert.new.self c.args.elements.now c.loop-element.element-index _
    c.loop-element-test.true refl c.loop-element.invariant c.in_ok-insert.ensures.updates
