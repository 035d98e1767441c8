-- The order of some elements that results from removing the first free element again and again.
use Rattle.std.specs.Prelude.{ℕ, zero, suc, ◌==◌, ◌&&◌, not, Bool, Option, Some, None, List, [], ◌∷◌, length, find, filter}
use Rattle.std.specs.List.{list_any}
use Rattle.std.specs.Option.{option_map, option_and_then}
use Rattle.ra_labels.specs.declared.edge.Edge.{Edge}

-- `true` if no edge leads to the element from a remaining one
abbrev pub is_free : List Edge → List ℕ → ℕ → Bool
is_free edges remaining x = not (list_any (λ (edge : Edge).
    (edge.after == x) && list_any (λ y. y == edge.before) remaining) edges)

abbrev pub without : ℕ → List ℕ → List ℕ
without x xs = filter (λ y. not (y == x)) xs

-- the elements in the order of their removal, at most n of them, or none if at some point no element is free
abbrev pub listed : ℕ → List Edge → List ℕ → Option (List ℕ)
listed n edges [] = Some []
listed zero edges (x ∷ xs) = None
listed (suc n) edges (x ∷ xs) =
    option_and_then (λ y. option_map (λ ys. y ∷ ys) (listed n edges (without y (x ∷ xs))))
    (find (is_free edges (x ∷ xs)) (x ∷ xs))

-- the order, or none if at some point no element is free
abbrev pub list_order_of : List ℕ → List Edge → Option (List ℕ)
list_order_of elements edges = listed (length elements) edges elements
