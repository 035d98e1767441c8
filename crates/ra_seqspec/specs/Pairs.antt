-- The identifiers and the elements of strictly increasing pairs.
use Rattle.std.specs.Prelude.{◌≡◌, ℕ, ◌==◌, nat_lt, Bool, true, List, [], ◌∷◌, filter, Option, None, Some, if◌then◌else◌}
use Rattle.std.specs.Option.{option_eq}

-- the identifiers of the leading pairs that have this element
abbrev pub identifiers_in_front : ℕ → List (ℕ × ℕ) → List ℕ
identifiers_in_front x [] = []
identifiers_in_front x (pair ∷ pairs) = if pair.0 == x then pair.1 ∷ identifiers_in_front x pairs else []

-- the elements of strictly increasing pairs, each once, if `last` is the element listed before them
abbrev pub elements_behind : Option ℕ → List (ℕ × ℕ) → List ℕ
elements_behind last [] = []
elements_behind last (pair ∷ pairs) =
    if option_eq (λ x y. x == y) last (Some pair.0)
    then elements_behind last pairs
    else pair.0 ∷ elements_behind (Some pair.0) pairs

abbrev pub distinct_elements : List (ℕ × ℕ) → List ℕ
distinct_elements pairs = elements_behind None pairs

abbrev pub is_above : Option ℕ → ℕ → Bool
is_above None x = true
is_above (Some last) x = nat_lt last x

-- the elements of strictly increasing pairs that are greater than the last one
abbrev pub elements_above : Option ℕ → List (ℕ × ℕ) → List ℕ
elements_above last pairs = filter (is_above last) (distinct_elements pairs)

-- holds if these further pairs have the elements of all pairs that are greater than the last one
abbrev pub IsRestOf : List (ℕ × ℕ) → Option ℕ → List (ℕ × ℕ) → Type 0
IsRestOf pairs last rest = elements_behind last rest ≡ elements_above last pairs
