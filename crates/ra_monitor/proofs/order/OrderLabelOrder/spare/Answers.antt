use Rattle.std.proofs.Common.{subst}
use Rattle.ra_monitor.specs.declared.order.Order.{Order}
use Rattle.ra_monitor.specs.Order.{IsOrderOf}
use Rattle.ra_monitor.proofs.order.OrderLabelOrder.spare.Goals as goal

pub returns-in-Time-clause-stands : goal.returns-in-Time-clause-stands
returns-in-Time-clause-stands c = λ past stands.
    c.spare-in-Time.ensures.stands past (subst (λ (o : Order). IsOrderOf o past) c.in-Time.is stands)
