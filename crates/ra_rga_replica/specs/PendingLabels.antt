-- The pending labels, by the numbers of the elements that they depend on.
use Rattle.std.specs.Prelude.{◌≡◌, ℕ, nat_eq, List, [], map, Some, unwrap_or, Vec}
use Rattle.std.specs.Map.{lookup}
use Rattle.std.specs.declared.alloc.Global.{Global}

-- the labels that are pending on the element with this number
abbrev pub labels_under : List (ℕ × List ℕ) → ℕ → List ℕ
labels_under waiting number = unwrap_or (lookup (nat_eq number) waiting) []

-- the content of a map's entries
abbrev pub waiting_in : List (ℕ × Vec ℕ Global) → List (ℕ × List ℕ)
waiting_in entries = map (λ entry. (entry.0, entry.1.items)) entries

-- holds if some label is pending for each number in the map
abbrev pub NoneEmpty : List (ℕ × List ℕ) → Type 0
NoneEmpty waiting = (number : ℕ) (labels : List ℕ) → lookup (nat_eq number) waiting ≡ Some labels → ¬ (labels ≡ [])
