-- The updates that a replica has, among all.
use Rattle.std.specs.Prelude.{◌≡◌, ◌⊎◌, ℕ, Bool, true, List, map, filter, Contains}
use Rattle.ra_labels.specs.declared.insertion.Insertion.{Insertion}
use Rattle.ra_labels.specs.declared.list_operation.ListUpdate.{ListUpdate}
use Rattle.ra_labels.specs.declared.list_operation.ListUpdate.TheVariants.{Put, Hide}

-- the updates of numbered ones
abbrev pub updates_in : List (ℕ × ListUpdate) → List ListUpdate
updates_in numbered = map (λ entry. entry.1) numbered

-- the numbered updates whose numbers pass the test
abbrev pub kept_by : (ℕ → Bool) → List (ℕ × ListUpdate) → List (ℕ × ListUpdate)
kept_by keep numbered = filter (λ entry. keep entry.0) numbered

-- holds if one of the updates inserts the element
abbrev pub Puts : ℕ → List ListUpdate → Type 0
Puts x updates = (insertion : Insertion) × Contains updates (Put insertion) × (insertion.element ≡ x)

-- holds if the update needs the element: as a neighbour, or to remove it
abbrev pub Needs : ListUpdate → ℕ → Type 0
Needs (Put insertion) x = (¬ (x ≡ 0)) × ((insertion.left ≡ x) ⊎ (insertion.right ≡ x))
Needs (Hide y) x = y ≡ x

-- holds if the insertion of each element that a kept update needs is kept
abbrev pub KeepsWhatIsNeeded : (ℕ → Bool) → List (ℕ × ListUpdate) → Type 0
KeepsWhatIsNeeded keep numbered = (n : ℕ) (update : ListUpdate) (x : ℕ) → Contains numbered (n, update) → keep n ≡ true
    → Needs update x
    → (m : ℕ) × (insertion : Insertion) × Contains numbered (m, Put insertion) × (insertion.element ≡ x)
    × (keep m ≡ true)
