-- What is reachable along walked edges.
use Rattle.std.specs.Prelude.{◌≡◌, ℕ, ◌<◌, ◌==◌, ◌||◌, Bool, true, List, length, get_or, take}
use Rattle.std.specs.List.{list_any}
use Rattle.ra_labels.specs.declared.edge.Edge.{Edge}

-- `true` if the element is the start or the end of a walked edge
abbrev pub is_marked : ℕ → List Edge → ℕ → Bool
is_marked start walked element = (element == start) || list_any (λ (edge : Edge). edge.after == element) walked

-- holds if each walked edge begins at the start, or at the end of an edge that was walked earlier
abbrev pub AreWalked : ℕ → List Edge → Type 0
AreWalked start walked = (k : ℕ) (d : Edge) → k < length walked
    → is_marked start (take k walked) (get_or walked k d).before ≡ true
