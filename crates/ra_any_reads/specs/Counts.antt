-- Vectors of counts. One that ends in zeros is the same as the one without them, since replicas join later.
use Rattle.std.specs.Prelude.{◌≡◌, ◌≢◌, ℕ, ◌+◌, ◌==◌, Bool, true, ◌&&◌, List, [], ◌∷◌, length, get_or}
use Rattle.std.specs.List.{list_all}

-- `true` if the vectors have the same count for each replica; one that is missing is 0
abbrev pub have_same_counts : List ℕ → List ℕ → Bool
have_same_counts [] ys = list_all (λ y. y == 0) ys
have_same_counts (x ∷ xs) [] = list_all (λ y. y == 0) (x ∷ xs)
have_same_counts (x ∷ xs) (y ∷ ys) = x == y && have_same_counts xs ys

-- the same in terms of each replica
abbrev pub HaveSameCounts : List ℕ → List ℕ → Type 0
HaveSameCounts xs ys = (replica : ℕ) → get_or xs replica 0 ≡ get_or ys replica 0

-- holds if the vector does not end in 0
abbrev pub IsTrimmed : List ℕ → Type 0
IsTrimmed xs = (last : ℕ) → length xs ≡ last + 1 → get_or xs last 0 ≢ 0
