use Rattle.ra_list_edges.proofs.PlacedElements.{kept_by_put, only_by_put, there_by_put}
use Rattle.ra_list_edges.proofs.placing.place.Goals as goal

pub returns-clause-kept : goal.returns-clause-kept
returns-clause-kept c =
    kept_by_put c.put.result c.args.order.now c.put.new.self _ _ c.args.placement.element c.put.ensures.put
    c.put.ensures.failed

pub returns-clause-only : goal.returns-clause-only
returns-clause-only c =
    only_by_put c.put.result c.args.order.now c.put.new.self _ _ c.args.placement.element c.put.ensures.put
    c.put.ensures.failed

pub returns-clause-there : goal.returns-clause-there
returns-clause-there c =
    there_by_put c.put.result c.args.order.now.order c.put.new.self.order _ _ c.args.placement.element c.put.ensures.put
