-- Elements that are moved to a cut of the order, and the edges that then lead forwards.
use Rattle.std.specs.Prelude.{◌≡◌, ℕ, ◌<◌, ◌+◌, ◌==◌, ◌++◌, not, List, length, get_or, filter, take, drop, Option, Some, None, Contains}
use Rattle.std.specs.List.{list_any}
use Rattle.ra_labels.specs.declared.edge.Edge.{Edge}
use Rattle.ra_list_order.specs.Chunks.{Chunk, chunk_at, joined, HaveSameGroups}
use Rattle.ra_labels.specs.Edges.{IsBefore}

-- the elements that are not among the moved ones
abbrev pub others : List ℕ → List ℕ → List ℕ
others moved xs = filter (λ y. not (list_any (λ x. y == x) moved)) xs

-- the order that is cut in two, with the moved elements between the two parts
abbrev pub gathered : List ℕ → List ℕ → List ℕ → List ℕ
gathered left moved right = others moved left ++ (moved ++ others moved right)

-- the elements before the cut, and those behind it
abbrev pub left_of : List Chunk → ℕ → ℕ → List ℕ
left_of chunks place position = joined (take place chunks) ++ take position (chunk_at chunks place).elements

abbrev pub right_of : List Chunk → ℕ → ℕ → List ℕ
right_of chunks place position = drop position (chunk_at chunks place).elements ++ joined (drop (place + 1) chunks)

-- holds if the element is at this index of the chunk at an index
pub record IsAt (chunks : List Chunk) (x chunk index : ℕ) : Type 0 where
  pub within : chunk < length chunks
  pub among : index < length (chunk_at chunks chunk).elements
  pub there : get_or (chunk_at chunks chunk).elements index 0 ≡ x

-- holds if the chunks have the same groups as before, and the elements that are not among these
pub record AreRemoved (elements : List ℕ) (old new : List Chunk) : Type 0 where
  pub groups : HaveSameGroups old new
  pub each : (k : ℕ) → k < length old → (chunk_at new k).elements ≡ others elements (chunk_at old k).elements

-- holds if the chunks have the elements, and the group of each chunk is its index
pub record ArePacked (elements : List ℕ) (chunks : List Chunk) (places : List ℕ) : Type 0 where
  pub whole : joined chunks ≡ elements
  pub as_many : length places ≡ length chunks
  pub placed : (k : ℕ) → k < length chunks → ((chunk_at chunks k).group ≡ k) × (get_or places k 0 ≡ k)

-- holds if the function gives each element its index in the list, and none to any other
pub record IsIndex (index : ℕ → Option ℕ) (elements : List ℕ) : Type 0 where
  pub found : (x i : ℕ) → index x ≡ Some i → (i < length elements) × (get_or elements i 0 ≡ x)
  pub missing : (x : ℕ) → index x ≡ None → ¬ Contains elements x

-- holds if the elements can be moved to the cut for a new edge: the ancestors are behind the cut and the descendants
-- before it; in the order that results, each edge to an ancestor, each edge from a descendant and the new edge lead
-- forwards
pub record CanBeGathered (left right ancestors descendants : List ℕ) (edges : List Edge) (new : Edge) : Type 0 where
  pub behind : (x : ℕ) → Contains ancestors x → Contains right x
  pub in_front : (x : ℕ) → Contains descendants x → Contains left x
  pub into : (edge : Edge) → Contains edges edge → Contains ancestors edge.after
      → IsBefore (gathered left (ancestors ++ descendants) right) edge.before edge.after
  pub from : (edge : Edge) → Contains edges edge → Contains descendants edge.before
      → IsBefore (gathered left (ancestors ++ descendants) right) edge.before edge.after
  pub leads : IsBefore (gathered left (ancestors ++ descendants) right) new.before new.after

-- holds if the list has each edge to an ancestor and each edge from a descendant
pub record HasEdgesAt (edges : List Edge) (ancestors descendants : List ℕ) (walked : List Edge) : Type 0 where
  pub into : (edge : Edge) → Contains edges edge → Contains ancestors edge.after → Contains walked edge
  pub from : (edge : Edge) → Contains edges edge → Contains descendants edge.before → Contains walked edge
