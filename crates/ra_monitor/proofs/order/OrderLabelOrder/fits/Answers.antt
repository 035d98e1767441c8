use Rattle.std.proofs.Common.{refl, subst}
use Rattle.ra_monitor.specs.declared.order.Order.{Order}
use Rattle.ra_monitor.specs.Order.{IsOrderOf}
use Rattle.ra_monitor.proofs.order.OrderLabelOrder.fits.Goals as goal

pub returns-in-Execution : goal.returns-in-Execution
returns-in-Execution c = λ past next stands comes. (
  c.place.result,
  c.place.ensures past next (subst (λ (o : Order). IsOrderOf o past) c.in-Execution.is stands) comes,
  refl,
)

pub returns-in-Time : goal.returns-in-Time
returns-in-Time c = λ past next stands.
    c.fits.ensures past next (subst (λ (o : Order). IsOrderOf o past) c.in-Time.is stands)
