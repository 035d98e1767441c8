-- What the neighbours in a list demand of an order.
use Rattle.std.specs.Prelude.{◌≡◌, ◌<◌, ◌+◌, ◌⊎◌, ℕ, List, [], ◌∷◌, length, get_or, Contains, Option, Some, None}
use Rattle.ra_precedence.specs.Conditions.{Condition}
use Rattle.ra_rga_precedence.specs.Relations.{LeadsTo, AreApart}

-- the condition that one label stands before another one
abbrev pub edge : ℕ → ℕ → Condition
edge m n = record { before = m ∷ []; after = n ∷ [] }

-- holds if the condition is that two neighbours are apart: what the second one stands under comes first
abbrev pub IsEdge : List (Option ℕ) → List ℕ → Condition → Type 0
IsEdge needed labels condition = (i left right : ℕ) × (i + 1 < length labels)
    × AreApart needed (get_or labels i 0) (get_or labels (i + 1) 0) left right × (condition ≡ edge right left)

-- holds if the conditions are these and those of the neighbours that begin at a place below the bound, each of which
-- stands above the next one or apart from it
pub record AreEdges (needed : List (Option ℕ)) (labels : List ℕ) (old new : List Condition) (bound : ℕ) : Type 0 where
  pub kept : (condition : Condition) → Contains old condition → Contains new condition
  pub only : (condition : Condition) → Contains new condition → Contains old condition ⊎ IsEdge needed labels condition
  pub each : (i : ℕ) → i < bound → i + 1 < length labels
      → LeadsTo needed (get_or labels (i + 1) 0) (get_or labels i 0)
      ⊎ ((left right : ℕ) × AreApart needed (get_or labels i 0) (get_or labels (i + 1) 0) left right
      × Contains new (edge right left))

-- holds if the label at the place stands under the next one
abbrev pub IsUnderNext : List (Option ℕ) → List ℕ → ℕ → Type 0
IsUnderNext needed labels i =
    (i + 1 < length labels) × LeadsTo needed (get_or labels i 0) (get_or labels (i + 1) 0)

-- holds if all neighbours are in order, by these conditions; or if the label at the place stands under the next one
abbrev pub AreNeighbors : List (Option ℕ) → List ℕ → List Condition → List Condition → Option ℕ → Type 0
AreNeighbors needed labels old new None = AreEdges needed labels old new (length labels)
AreNeighbors needed labels old new (Some i) = IsUnderNext needed labels i
