-- The last label of a replica.
use Rattle.std.specs.Prelude.{◌≡◌, ◌<◌, ◌≤◌, ℕ, List, IfSome, get_or, Option, Some, None}
use Rattle.ra_labels.specs.Records.{Records}
use Rattle.ra_labels.specs.Places.{issuer_of}

-- holds if this is the last label of the replica below a number; none if there is none
abbrev pub IsLastBelow : Records → ℕ → ℕ → Option ℕ → Type 0
IsLastBelow records bound replica None = (m : ℕ) → m < bound → ¬ (issuer_of records m ≡ replica)
IsLastBelow records bound replica (Some last) = (last < bound) × (issuer_of records last ≡ replica)
    × ((m : ℕ) → m < bound → issuer_of records m ≡ replica → m ≤ last)

-- holds if the labels, where there are any, are below a number
abbrev pub AreBelow : ℕ → List (Option ℕ) → Type 0
AreBelow bound labels = (i : ℕ) → IfSome (get_or labels i None) (λ label. label < bound)
