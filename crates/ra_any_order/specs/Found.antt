-- What was found of the labels of a history.
use Rattle.std.specs.Prelude.{ℕ}
use Rattle.ra_labels.specs.Records.{Records, label_count}
use Rattle.ra_any_order.specs.declared.conditions.Found.{Found}
use Rattle.ra_any_order.specs.declared.conditions.Found.TheVariants.{Conditions, Impossible}
use Rattle.ra_any_order.specs.Requirements.{AreConditionsBelow, NameBelow, IsImpossible}

-- holds if the conditions are those of all labels, or if the read is impossible
abbrev pub IsFound : Records → Found → Type 0
IsFound records (Conditions conditions) = AreConditionsBelow records (label_count records) conditions.items
IsFound records (Impossible n element) = IsImpossible records n element

-- holds if the conditions name only numbers below the count
abbrev pub NamesBelow : ℕ → Found → Type 0
NamesBelow count (Conditions conditions) = NameBelow count conditions.items
NamesBelow count (Impossible n element) = Unit {0}
