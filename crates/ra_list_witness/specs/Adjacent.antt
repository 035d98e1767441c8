-- The pairs of adjacent elements of a list, as edges of the kept order.
use Rattle.std.specs.Prelude.{ℕ, List, Contains}
use Rattle.ra_labels.specs.declared.edge.Edge.{Edge}
use Rattle.ra_labels.specs.Edges.{HasEdge}
use Rattle.ra_labels.specs.Reads.{edges_of_read}

-- holds if each listed element has an edge to the next one
abbrev pub HasPairs : List Edge → List ℕ → Type 0
HasPairs edges list = (label : ℕ) (edge : Edge) → Contains (edges_of_read label list) edge
    → HasEdge edges edge.before edge.after
