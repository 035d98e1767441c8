-- Orders, edges and cycles.
use Rattle.std.specs.Prelude.{◌≡◌, ℕ, ◌<◌, ◌≤◌, ◌==◌, ◌⊎◌, List, [], ◌∷◌, length, count_by, Contains}
use Rattle.ra_labels.specs.declared.edge.Edge.{Edge}

-- holds if no element is in the list twice
abbrev pub EachOnce : List ℕ → Type 0
EachOnce order = (x : ℕ) → count_by (λ y. y == x) order ≤ 1

-- holds if b is somewhere after a
abbrev pub IsBefore : List ℕ → ℕ → ℕ → Type 0
IsBefore [] a b = ⊥
IsBefore (x ∷ xs) a b = ((x ≡ a) × Contains xs b) ⊎ IsBefore xs a b

-- holds if one of the edges is from a to b
abbrev pub HasEdge : List Edge → ℕ → ℕ → Type 0
HasEdge edges a b = (edge : Edge) × Contains edges edge × (edge.before ≡ a) × (edge.after ≡ b)

-- holds if each edge is from an element to a later one
abbrev pub Extends : List ℕ → List Edge → Type 0
Extends order edges = (edge : Edge) → Contains edges edge → IsBefore order edge.before edge.after

-- holds if the edges lead from one element to another, each beginning where the previous one ends
abbrev pub IsChain : ℕ → List Edge → ℕ → Type 0
IsChain from [] to = from ≡ to
IsChain from (edge ∷ edges) to = (edge.before ≡ from) × IsChain edge.after edges to

-- holds if the second list is a cycle: a chain of some of the edges that ends where it begins
pub record IsCycle (edges : List Edge) (cycle : List Edge) : Type 0 where
  pub start : ℕ
  pub chain : IsChain start cycle start
  pub some : 0 < length cycle
  pub among : (edge : Edge) → Contains cycle edge → Contains edges edge
