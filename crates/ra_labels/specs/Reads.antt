-- What a list that a replica returned requires of an order: each listed element is before the next one.
use Rattle.std.specs.Prelude.{ℕ, ◌==◌, List, [], ◌∷◌, filter}
use Rattle.std.specs.List.{list_any}
use Rattle.ra_labels.specs.declared.edge.Edge.{Edge}

-- the edges of a list that the operation with this label returned
abbrev pub edges_of_read : ℕ → List ℕ → List Edge
edges_of_read label [] = []
edges_of_read label (x ∷ []) = []
edges_of_read label (x ∷ y ∷ list) = record { before = x; after = y; label = label } ∷ edges_of_read label (y ∷ list)

-- the listed elements in the given order
abbrev pub in_order : List ℕ → List ℕ → List ℕ
in_order order list = filter (λ x. list_any (λ y. y == x) list) order
