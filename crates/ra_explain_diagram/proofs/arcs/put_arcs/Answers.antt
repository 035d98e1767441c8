use Rattle.ra_explain_diagram.specs.Arcs.{arc_bytes}
use Rattle.ra_explain_diagram.proofs.ArcBytes.{flat_next}
use Rattle.ra_explain_diagram.proofs.arcs.put_arcs.Goals as goal

pub loop-arrow-preserved : goal.loop-arrow-preserved
loop-arrow-preserved c =
    flat_next (arc_bytes c.args.places.now) c.args.arrows.now c.loop-arrow.arrow-index _ c.loop-arrow.out.items
    c.put_arc.new.out.items _ c.loop-arrow-test.true c.loop-arrow.invariant c.in_ok-put_arc.ensures
