-- An order of elements, as a function that computes.
use Rattle.std.specs.Prelude.{ℕ, ◌==◌, Bool, false, ◌&&◌, ◌||◌, List, [], ◌∷◌}
use Rattle.ra_labels.specs.Lists.{is_among}

-- `true` if b is somewhere after a
abbrev pub is_before : List ℕ → ℕ → ℕ → Bool
is_before [] a b = false
is_before (x ∷ xs) a b = x == a && is_among b xs || is_before xs a b
