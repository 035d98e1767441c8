use Rattle.std.proofs.Common.{subst}
use Rattle.ra_monitor.specs.declared.order.Order.{Order}
use Rattle.ra_monitor.specs.Order.{IsOrderOf}
use Rattle.ra_monitor.proofs.order.OrderLabelOrder.put.Goals as goal

pub returns-in-Execution : goal.returns-in-Execution
returns-in-Execution c = λ past next stands comes.
    let order = subst (λ (o : Order). IsOrderOf o past) c.in-Execution.is stands in
    c.put.ensures.stands past next order comes (c.place-place.ensures past next order comes)

pub returns-in-Time : goal.returns-in-Time
returns-in-Time c = λ past next stands.
    c.put-in-Time.ensures past next (subst (λ (o : Order). IsOrderOf o past) c.in-Time.is stands)
