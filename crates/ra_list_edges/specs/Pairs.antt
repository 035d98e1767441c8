-- The edges of operations: each listed element is before the next one.
use Rattle.std.specs.Prelude.{◌≡◌, ℕ, ◌<◌, ◌-◌, ◌⊎◌, ◌++◌, List, length, get_or, Contains}
use Rattle.ra_labels.specs.declared.edge.Edge.{Edge}
use Rattle.ra_labels.specs.Edges.{HasEdge}
use Rattle.ra_labels.specs.Reads.{edges_of_read}

-- the edges, and those of the operation with this label
abbrev pub with_pairs : ℕ → List ℕ → List Edge → List Edge
with_pairs label list edges = edges ++ edges_of_read label list

-- holds if the new edges are the old ones and further ones of the operation
abbrev pub AddsSome : ℕ → List ℕ → List Edge → List Edge → Type 0
AddsSome label list old new = (added : List Edge) × (new ≡ old ++ added)
    × ((edge : Edge) → Contains added edge → Contains (edges_of_read label list) edge)

-- holds if moreover each listed element has an edge to the next one
pub record AddsPairs (label : ℕ) (list : List ℕ) (old new : List Edge) : Type 0 where
  pub some : AddsSome label list old new
  pub all : (edge : Edge) → Contains (edges_of_read label list) edge → HasEdge new edge.before edge.after

-- holds if the listed element at this index has an edge from the one before it
abbrev pub HasEdgeAt : List Edge → List ℕ → ℕ → Type 0
HasEdgeAt edges list i = HasEdge edges (get_or list (i - 1) 0) (get_or list i 0)

-- holds if each listed element but the first has an edge from the one before it, except perhaps at these indexes
pub record HasEdgesBut (edges : List Edge) (list places : List ℕ) : Type 0 where
  pub within : (i : ℕ) → Contains places i → (0 < i) × (i < length list)
  pub rest : (i : ℕ) → 0 < i → i < length list → Contains places i ⊎ HasEdgeAt edges list i
