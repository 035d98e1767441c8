-- A list order, as contracts describe it, and the terms of its clauses.
use Rattle.std.specs.Prelude.{◌≡◌, ℕ, ◌++◌, List, ◌∷◌, Option, Some, None}
use Rattle.ra_labels.specs.declared.edge.Edge.{Edge}
use Rattle.ra_labels.specs.Edges.{EachOnce, Extends}

pub record ListOrder : Type 0 where
  -- the elements in order
  pub order : List ℕ
  -- the edges in the order in which they were added
  pub edges : List Edge

-- the representation invariant
pub record ListOrderKept (order : List ℕ) (edges : List Edge) : Type 0 where
  pub once : EachOnce order
  pub extends : Extends order edges

-- holds if the new list is the old one with an element directly behind its left neighbour, else directly before its
-- right neighbour, else at the front
abbrev pub IsPut : List ℕ → Option ℕ → Option ℕ → ℕ → List ℕ → Type 0
IsPut old (Some left) right element new = (front back : List ℕ)
    × (old ≡ front ++ left ∷ back) × (new ≡ front ++ left ∷ element ∷ back)
IsPut old None (Some right) element new = (front back : List ℕ)
    × (old ≡ front ++ right ∷ back) × (new ≡ front ++ element ∷ right ∷ back)
IsPut old None None element new = new ≡ element ∷ old
