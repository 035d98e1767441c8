-- What was found of a label: its conditions, or that it is impossible.
use Rattle.std.specs.Prelude.{◌≡◌, ◌++◌, ◌∷◌, [], ◌+◌, ℕ, true, false, List, Option, Some, None}
use Rattle.ra_labels.specs.declared.operation.Op.{Op}
use Rattle.ra_labels.specs.Records.{Records}
use Rattle.ra_precedence.specs.Conditions.{Condition}
use Rattle.ra_some_order.specs.VisibleUpdates.{visible_labels}
use Rattle.ra_any_order.specs.declared.outcome.Outcome.{Outcome}
use Rattle.ra_any_order.specs.declared.outcome.Outcome.TheVariants.{Possible, Impossible}
use Rattle.ra_any_order.specs.Requirements.{AreReadConditions, IsRefused, IsImpossible, AreConditionsBelow}
use Rattle.ra_any_order.specs.Reading.{is_possible_value}

-- holds if the label is possible and the conditions of its answer were added, or if it is impossible
abbrev pub IsOutcome : Records → ℕ → Op → List Condition → List Condition → Outcome → Type 0
IsOutcome records n operation old new Possible =
    (added : List Condition) × (new ≡ old ++ added) × AreReadConditions records n operation old added
IsOutcome records n operation old new (Impossible element) =
    IsRefused records (visible_labels records n) operation element

-- holds of a possible label if the claim does
abbrev pub IfPossible : Outcome → Type 0 → Type 0
IfPossible Possible claim = claim
IfPossible (Impossible element) claim = Unit {0}

-- holds if the conditions are those of the labels up to a possible one, or if it is impossible
abbrev pub IsLabelOutcome : Records → ℕ → List Condition → Outcome → Type 0
IsLabelOutcome records n new Possible = AreConditionsBelow records (n + 1) new
IsLabelOutcome records n new (Impossible element) = IsImpossible records n element

-- holds if the condition was added, and some write can lead to the value; or if none can
abbrev pub IsValueOutcome : Condition → Option ℕ → List Condition → List Condition → Outcome → Type 0
IsValueOutcome condition value old new Possible =
    (new ≡ old ++ condition ∷ []) × (is_possible_value condition value ≡ true)
IsValueOutcome condition value old new (Impossible None) = is_possible_value condition value ≡ false
IsValueOutcome condition value old new (Impossible (Some x)) = ⊥
