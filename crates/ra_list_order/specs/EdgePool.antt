-- Edges that are linked by the element where they begin, and counted by the elements at both ends.
use Rattle.std.specs.Prelude.{◌≡◌, ℕ, ◌-◌, ◌<◌, ◌≤◌, ◌==◌, ◌&&◌, Bool, List, length, map, get_or, count_by, Option, unwrap_or}
use Rattle.std.specs.Ordering.{nat_cmp, ordering_then}
use Rattle.std.specs.declared.cmp.Ordering.{Ordering}
use Rattle.ra_labels.specs.declared.edge.Edge.{Edge}

abbrev pub no_edge : Edge
no_edge = record { before = 0; after = 0; label = 0 }

abbrev pub edge_at : List Edge → ℕ → Edge
edge_at edges index = get_or edges index no_edge

-- holds if this is the number, the index plus one, of the last edge from x among the first n, or 0 if none begins there
pub record IsLastFrom (x : ℕ) (edges : List Edge) (n last : ℕ) : Type 0 where
  pub within : last ≤ n
  pub begins : 0 < last → (edge_at edges (last - 1)).before ≡ x
  pub others : (k : ℕ) → last ≤ k → k < n → ¬ ((edge_at edges k).before ≡ x)

-- the representation invariant of a pool: the number of the last edge from each element, and of the previous edge from
-- the same element
pub record EdgesLinked (last : ℕ → ℕ) (edges : List Edge) (previous : List ℕ) : Type 0 where
  pub lasts : (x : ℕ) → IsLastFrom x edges (length edges) (last x)
  pub links : (k : ℕ) → k < length edges → IsLastFrom (edge_at edges k).before edges k (get_or previous k 0)
  pub as_many : length previous ≡ length edges

-- `true` if the edge is from a to b
abbrev pub is_from_to : ℕ → ℕ → Edge → Bool
is_from_to a b edge = (edge.before == a) && (edge.after == b)

-- the order of pairs in a sorted map
abbrev pub pair_cmp : ℕ × ℕ → ℕ × ℕ → Ordering
pair_cmp x y = ordering_then (nat_cmp x.0 y.0) (nat_cmp x.1 y.1)

-- the representation invariant of the counts: the number of edges from the one element of each pair to the other one
abbrev pub AreCounted : (ℕ × ℕ → Option ℕ) → List Edge → Type 0
AreCounted count edges = (a b : ℕ) → unwrap_or (count (a, b)) 0 ≡ count_by (is_from_to a b) edges

-- the edge in the other direction
abbrev pub flipped : Edge → Edge
flipped edge = record { before = edge.after; after = edge.before; label = edge.label }

-- the representation invariant of a pool
pub record EdgePoolKept (last last_into : ℕ → ℕ) (count : ℕ × ℕ → Option ℕ) (edges : List Edge)
    (previous previous_into : List ℕ) : Type 0 where
  pub linked : EdgesLinked last edges previous
  pub linked_into : EdgesLinked last_into (map flipped edges) previous_into
  pub counted : AreCounted count edges
