-- The elements of an insertion.
use Rattle.std.specs.Prelude.{ℕ, Option, Some, None, ◌++◌, List, [], ◌∷◌}
use Rattle.ra_list_edges.specs.declared.placing.Placement.{Placement}

-- the element as a list, or no element
abbrev pub listed : Option ℕ → List ℕ
listed None = []
listed (Some x) = x ∷ []

-- the elements of a placement, in the order that it requires
abbrev pub placed : Placement → List ℕ
placed placement = listed placement.left ++ (placement.element ∷ listed placement.right)
