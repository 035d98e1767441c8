use Rattle.std.proofs.Common.{take}
use Rattle.std.specs.Prelude.{Contains}
use Rattle.std.specs.List.Sorted.{IsPermutation}
use Rattle.ra_labels.specs.declared.edge.Edge.{Edge}
use Rattle.ra_labels.specs.Edges.{HasEdge}
use Rattle.ra_labels.specs.Reads.{edges_of_read}
use Rattle.ra_list_edges.specs.Pairs.{AddsSome}
use Rattle.ra_list_edges.proofs.pairs.add_pairs.Given as goal

-- the edges of the elements so far are there
abbrev pub invariant-loop-i : goal.invariant-loop-i
invariant-loop-i l = record {
  elements : IsPermutation l.fn.order.order l.order.order;
  some : AddsSome l.label l.list l.fn.order.edges l.order.edges;
  all : (edge : Edge) → Contains (edges_of_read l.label (take l.i l.list)) edge
      → HasEdge l.order.edges edge.before edge.after;
}
