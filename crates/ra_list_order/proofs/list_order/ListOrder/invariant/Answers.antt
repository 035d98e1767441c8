use Rattle.std.proofs.Common.{subst}
use Rattle.ra_labels.specs.Edges.{EachOnce, Extends}
use Rattle.ra_list_order.specs.ListOrder.{ListOrder}
use Rattle.ra_list_order.proofs.list_order.ListOrder.invariant.Goals as goal

pub returns-clause-once : goal.returns-clause-once
returns-clause-once c = subst (λ (l : ListOrder). EachOnce l.order) c.self.view_is c.self.invariant.once

pub returns-clause-extends : goal.returns-clause-extends
returns-clause-extends c = subst (λ (l : ListOrder). Extends l.order l.edges) c.self.view_is c.self.invariant.extends
