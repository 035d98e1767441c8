use Rattle.ra_list_order.proofs.Gatherings.{edges_into_more, edges_from_more}
use Rattle.ra_list_order.proofs.gathering.edges_of.Goals as goal

pub loop-ancestor-preserved : goal.loop-ancestor-preserved
loop-ancestor-preserved c =
    edges_into_more c.args.edges.now c.args.ancestors.now c.loop-ancestor.walked.items c.push_into.new.walked.items
    c.loop-ancestor.ancestor-index c.loop-ancestor-test.true c.loop-ancestor.invariant c.in_ok-push_into.ensures

pub loop-descendant-preserved : goal.loop-descendant-preserved
loop-descendant-preserved c =
    edges_from_more c.args.edges.now c.args.ancestors.now c.args.descendants.now c.loop-descendant.walked.items
    c.push_from.new.walked.items c.loop-descendant.descendant-index c.loop-descendant-test.true
    c.loop-descendant.invariant c.in_ok-push_from.ensures
