use Rattle.std.proofs.Common.{take}
use Rattle.std.specs.Prelude.{Contains}
use Rattle.ra_labels.specs.declared.edge.Edge.{Edge}
use Rattle.ra_labels.specs.Edges.{IsBefore}
use Rattle.ra_list_order.specs.Plans.{order_by}
use Rattle.ra_list_order.proofs.gathering.all_lead_forward.Given as goal

abbrev pub invariant-loop-edge : goal.invariant-loop-edge
invariant-loop-edge l = (edge : Edge) → Contains (take l.edge-index l.walked) edge
    → IsBefore (order_by l.order l.plan) edge.before edge.after
