-- What the checks of a stuck set and of its reasons establish.
use Rattle.std.specs.Prelude.{◌≡◌, ◌⊎◌, ℕ, Bool, true, false, List, get_or, Contains}
use Rattle.ra_precedence.specs.declared.reasons.Held.{Held}
use Rattle.ra_precedence.specs.Conditions.{Condition}

-- holds if only these labels were marked
abbrev pub AreAmong : List ℕ → List Bool → List Bool → Type 0
AreAmong labels old new = (c : ℕ) → get_or new c false ≡ true → (get_or old c false ≡ true) ⊎ Contains labels c

-- holds if some condition says of the label that it stands before one of some labels, all of which are marked
abbrev pub IsHeldBack : List Condition → List Bool → ℕ → Type 0
IsHeldBack conditions marks b = (condition : Condition) × Contains conditions condition × Contains condition.before b
    × ((c : ℕ) → Contains condition.after c → get_or marks c false ≡ true)

-- holds if a condition holds back each label that is marked in `held`, by the marks of the set
abbrev pub AreHeldBack : List Condition → List Bool → List Bool → Type 0
AreHeldBack conditions marks held = (b : ℕ) → get_or held b false ≡ true → IsHeldBack conditions marks b

-- holds if the condition says that the label stands before one of these
abbrev pub IsHeldBy : Condition → Held → Type 0
IsHeldBy condition held = Contains condition.before held.label × (condition.after ≡ held.after.items)
