use Rattle.ra_explain.specs.Conflicts.{edges_at}
use Rattle.ra_explain.proofs.Conflicts.{edges_next}
use Rattle.ra_explain.proofs.edges.edges_of_labels.Goals as goal

pub loop-label-preserved : goal.loop-label-preserved
loop-label-preserved c =
    edges_next (edges_at c.args.log.now c.args.places.now) c.loop-label.label c.loop-label.edges.items
    c.add_edges_at.new.edges.items c.in_ok-add_edges_at.ensures c.loop-label.invariant
