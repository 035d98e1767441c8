-- The elements of an insertion.
use Rattle.std.specs.Prelude.{◌≡◌, ℕ, ◌==◌, ◌⊎◌, ◌++◌, List, [], ◌∷◌, Contains, if◌then◌else◌}
use Rattle.ra_labels.specs.declared.insertion.Insertion.{Insertion}

-- holds if no neighbour is named, or one of these elements
abbrev pub IsKnown : List ℕ → ℕ → Type 0
IsKnown elements x = (x ≡ 0) ⊎ Contains elements x

-- the element as a list, or no element for 0
abbrev pub named : ℕ → List ℕ
named x = if x == 0 then [] else x ∷ []

-- the elements of an insertion, in the order that it requires
abbrev pub neighborhood : Insertion → List ℕ
neighborhood insertion = named insertion.left ++ (insertion.element ∷ named insertion.right)
