-- Why none of some labels can be the last one of them.
use Rattle.std.specs.Prelude.{◌≡◌, ℕ, Bool, true, false, List, get_or, Contains}
use Rattle.ra_precedence.specs.declared.reasons.Held.{Held}
use Rattle.ra_precedence.specs.Conditions.{Condition}

-- holds if a condition says that the label stands before one of these
abbrev pub IsHeld : List Condition → Held → Type 0
IsHeld conditions held = (condition : Condition) × Contains conditions condition
    × Contains condition.before held.label × (condition.after ≡ held.after.items)

abbrev pub AreHeld : List Condition → List Held → Type 0
AreHeld conditions reasons = (held : Held) → Contains reasons held → IsHeld conditions held

-- holds if each label that a reason names as a later one has a reason itself
abbrev pub IsClosed : List Held → Type 0
IsClosed reasons = (held : Held) (c : ℕ) → Contains reasons held → Contains held.after.items c
    → (other : Held) × Contains reasons other × (other.label ≡ c)

-- holds if each reason is that of a condition, and all labels that they name have reasons
pub record AreReasons (conditions : List Condition) (reasons : List Held) : Type 0 where
  pub each : AreHeld conditions reasons
  pub closed : IsClosed reasons

-- holds if only labels with a reason are marked
abbrev pub AreMarked : List Held → List Bool → Type 0
AreMarked reasons marks = (c : ℕ) → get_or marks c false ≡ true
    → (held : Held) × Contains reasons held × (held.label ≡ c)
