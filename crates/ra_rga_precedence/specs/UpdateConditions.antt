-- The conditions that updates place on an order by what they see and what they need.
use Rattle.std.specs.Prelude.{◌≡◌, ◌<◌, ◌⊎◌, ◌++◌, ◌∷◌, [], ℕ, true, List, get_or, Contains, IfSome, Option, Some, None}
use Rattle.ra_labels.specs.declared.operation.Op.{Op}
use Rattle.ra_labels.specs.Records.{Records}
use Rattle.ra_labels.specs.Visibility.{is_update_at}
use Rattle.ra_precedence.specs.Conditions.{Condition}
use Rattle.ra_visibility.specs.Newest.{AreNewest}
use Rattle.ra_rga_precedence.specs.Operations.{updates_at}

-- these labels, and this one if there is one
abbrev pub with_option : List ℕ → Option ℕ → List ℕ
with_option labels None = labels
with_option labels (Some label) = labels ++ label ∷ []

-- the newest updates that an update sees and the insertion of what it needs stand before it
abbrev pub update_condition : List ℕ → Option ℕ → ℕ → Condition
update_condition newest needed n = record { before = with_option newest needed; after = n ∷ [] }

-- holds if the condition is that of update n
abbrev pub IsUpdateCondition : Records → List (Option ℕ) → ℕ → Condition → Type 0
IsUpdateCondition records needed n condition =
    (newest : List ℕ) × AreNewest records n newest × (condition ≡ update_condition newest (get_or needed n None) n)

-- holds if the conditions are those of the updates below a number
pub record AreUpdateConditions (records : Records) (needed : List (Option ℕ)) (bound : ℕ)
    (conditions : List Condition) : Type 0 where
  pub has : (n : ℕ) → n < bound → is_update_at records n ≡ true
      → (condition : Condition) × Contains conditions condition × IsUpdateCondition records needed n condition
  pub only : (condition : Condition) → Contains conditions condition
      → (n : ℕ) × (n < bound) × (is_update_at records n ≡ true) × IsUpdateCondition records needed n condition

-- holds if the conditions say of each update below a number that the insertion of what it needs stands before it
abbrev pub HoldNeeds : List Op → List (Option ℕ) → ℕ → List Condition → Type 0
HoldNeeds operations needed bound conditions = (n m : ℕ) → n < bound → updates_at operations n ≡ true
    → get_or needed n None ≡ Some m → (condition : Condition) × Contains conditions condition
    × Contains condition.before m × (condition.after ≡ n ∷ [])

-- holds if the labels, where there are any, are below a number
abbrev pub AreBelow : ℕ → List (Option ℕ) → Type 0
AreBelow bound labels = (i : ℕ) → IfSome (get_or labels i None) (λ label. label < bound)

-- holds if the conditions name only numbers below the count
abbrev pub NameBelow : ℕ → List Condition → Type 0
NameBelow count conditions = (condition : Condition) → Contains conditions condition → (b : ℕ)
    → Contains condition.before b ⊎ Contains condition.after b → b < count
