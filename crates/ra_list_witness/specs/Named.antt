-- Elements that go by their numbers, and the edges between them.
use Rattle.std.specs.Prelude.{◌≡◌, ◌↔◌, ℕ, ◌<◌, List, Option, Some, None, length, map, get_or, Contains}
use Rattle.std.specs.List.{slice_get, filter_map}
use Rattle.ra_labels.specs.declared.edge.Edge.{Edge}
use Rattle.ra_labels.specs.declared.insertion.Insertion.{Insertion}
use Rattle.ra_list_edges.specs.declared.placing.Placement.{Placement}
use Rattle.ra_labels.specs.Edges.{EachOnce}

-- the element with this number
abbrev pub element_at : List ℕ → ℕ → ℕ
element_at elements number = get_or elements number 0

-- the edge with the elements in place of their numbers
abbrev pub named : List ℕ → Edge → Edge
named elements edge = record {
  before = element_at elements edge.before;
  after = element_at elements edge.after;
  label = edge.label;
}

-- the edges with the elements in place of their numbers
abbrev pub all_named : List ℕ → List Edge → List Edge
all_named elements edges = map (named elements) edges

-- the elements with these numbers, in this order; a number that no element has is left out
abbrev pub elements_of : List ℕ → List ℕ → List ℕ
elements_of elements numbers = filter_map (slice_get elements) numbers

-- holds if each edge is from the number of an element to that of an element
abbrev pub AreBetweenNumbers : List ℕ → List Edge → Type 0
AreBetweenNumbers elements edges = (edge : Edge) → Contains edges edge
    → (edge.before < length elements) × (edge.after < length elements)

-- holds if this is the number of the neighbour x; if x is 0, no neighbour is named, and there is no number
abbrev pub IsNeighbor : List ℕ → ℕ → Option ℕ → Type 0
IsNeighbor elements x None = x ≡ 0
IsNeighbor elements x (Some n) = (¬ (x ≡ 0)) × (slice_get elements n ≡ Some x)

-- holds if these are the numbers of an insertion's elements; the new element has the next number
pub record IsPlacement (elements : List ℕ) (insertion : Insertion) (placement : Placement) : Type 0 where
  pub left : IsNeighbor elements insertion.left placement.left
  pub element : placement.element ≡ length elements
  pub right : IsNeighbor elements insertion.right placement.right

-- holds if the list has exactly the elements, each once
abbrev pub IsOrderOf : List ℕ → List ℕ → Type 0
IsOrderOf order elements = EachOnce order × ((x : ℕ) → Contains order x ↔ Contains elements x)
