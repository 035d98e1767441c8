-- What each label requires of an order of all labels, and conditions that require it.
use Rattle.std.specs.Prelude.{◌≡◌, ◌<◌, ◌≤◌, ◌⊎◌, ◌++◌, ◌∷◌, [], ℕ, true, List, Contains, Option, Some, None}
use Rattle.ra_labels.specs.declared.operation.Op.{Op}
use Rattle.ra_labels.specs.declared.operation.Op.TheVariants as op
use Rattle.ra_labels.specs.declared.label.Label.{Label}
use Rattle.ra_labels.specs.Edges.{IsBefore}
use Rattle.ra_labels.specs.Records.{Records, label_at, label_count}
use Rattle.ra_labels.specs.Visibility.{sees}
use Rattle.ra_labels.specs.Places.{issuer_of}
use Rattle.ra_precedence.specs.Conditions.{Condition, Meets, MeetsAll}
use Rattle.ra_some_order.specs.VisibleUpdates.{visible_labels, elements_in, HasOperation}
use Rattle.ra_some_order.specs.UpdateConditions.{value_condition, element_condition, read_conditions}
use Rattle.ra_some_order.specs.PlainConditions.{IsPossibleRead}
use Rattle.ra_some_order.specs.LabelOrders.{Narrows}

-- holds if label k, or a later one of its replica, stands before label n and is an earlier one
abbrev pub IsFollowedBy : Records → List ℕ → ℕ → ℕ → Type 0
IsFollowedBy records order k n =
    (m : ℕ) × (k ≤ m) × (m < n) × (issuer_of records k ≡ issuer_of records m) × IsBefore order m n

-- holds if what label n sees and the earlier labels of its replica stand before it in this sense, and if narrow forms
-- of its conditions as a read are met
pub record IsInTurn (records : Records) (order : List ℕ) (n : ℕ) : Type 0 where
  pub seen : (k : ℕ) → sees records n k ≡ true → IsFollowedBy records order k n
  pub previous : (k : ℕ) → k < n → issuer_of records k ≡ issuer_of records n → IsFollowedBy records order k n
  pub read : (label : Label) → label_at records n ≡ Some label → (full : Condition)
      → Contains (read_conditions (visible_labels records n) label.op) full
      → (condition : Condition) × Narrows records full condition × Meets order condition

-- Holds if label n requires that b stands before one of the labels of `after`. Either n is this label: it sees b, or b
-- is an earlier label of its replica. Or n is a read, and the condition narrows one that its answer requires.
pub data Requires (records : Records) (n : ℕ) (condition : Condition) (b : ℕ) : Type 0 where
  Turn : n < label_count records → condition.after ≡ n ∷ []
      → (sees records n b ≡ true) ⊎ ((b < n) × (issuer_of records b ≡ issuer_of records n))
      → Requires records n condition b
  Answer : (label : Label) (full : Condition) → label_at records n ≡ Some label
      → Contains (read_conditions (visible_labels records n) label.op) full → Narrows records full condition
      → Requires records n condition b

-- holds if some label requires it of each label that has to stand before another one
abbrev pub IsRequired : Records → Condition → Type 0
IsRequired records condition =
    (b : ℕ) → Contains condition.before b → (n : ℕ) × Requires records n condition b

-- holds if the labels require each of the conditions
abbrev pub AreRequired : Records → List Condition → Type 0
AreRequired records conditions =
    (condition : Condition) → Contains conditions condition → IsRequired records condition

-- holds if the conditions name only numbers below the count
abbrev pub NameBelow : ℕ → List Condition → Type 0
NameBelow count conditions = (condition : Condition) → Contains conditions condition → (b : ℕ)
    → Contains condition.before b ⊎ Contains condition.after b → b < count

-- Holds if the condition fails in each order: it names a label that has to stand before another one, and each of those
-- is followed by such a label of its replica.
pub record IsOverwritten (records : Records) (full : Condition) : Type 0 where
  pub some : (b : ℕ) × Contains full.before b
  pub followed : (k : ℕ) → Contains full.after k
      → (m : ℕ) × Contains full.before m × (k ≤ m) × (issuer_of records k ≡ issuer_of records m)

-- holds if some visible update can lead to the element's being listed or not
abbrev pub IsPossibleElement : List Label → List ℕ → ℕ → Type 0
IsPossibleElement visible list x = (Contains list x → HasOperation visible (op.LwwAdd x))
    × (Contains (elements_in visible) x → ¬ Contains list x → HasOperation visible (op.LwwRemove x))

-- holds if no visible update can lead to the value that was read, or to the element's being listed or not; or if each
-- one that can is overwritten
abbrev pub IsRefused : Records → List Label → Op → Option ℕ → Type 0
IsRefused records visible (op.Last value) None =
    (¬ IsPossibleRead visible (op.Last value)) ⊎ IsOverwritten records (value_condition visible value)
IsRefused records visible (op.LwwRead list) (Some x) =
    (¬ IsPossibleElement visible list x) ⊎ IsOverwritten records (element_condition visible list x)
IsRefused records visible _ _ = ⊥

-- holds if label n is a read to which no visible update can lead, or only overwritten ones, for this element if there
-- is one
abbrev pub IsImpossible : Records → ℕ → Option ℕ → Type 0
IsImpossible records n element = (label : Label) × (label_at records n ≡ Some label)
    × IsRefused records (visible_labels records n) label.op element

-- holds if the conditions of the labels below a number are among these, and all of them are required
pub record AreConditionsBelow (records : Records) (bound : ℕ) (conditions : List Condition) : Type 0 where
  pub in_turn : (n : ℕ) → n < bound → (order : List ℕ) → MeetsAll order conditions → IsInTurn records order n
  pub possible : (n : ℕ) → n < bound → (label : Label) → label_at records n ≡ Some label
      → IsPossibleRead (visible_labels records n) label.op
  pub required : AreRequired records conditions

-- Holds if the conditions are required, and they and the earlier ones require what the answer of the label does; and if
-- some visible update can lead to it.
pub record AreReadConditions (records : Records) (n : ℕ) (operation : Op) (earlier added : List Condition)
    : Type 0 where
  pub required : AreRequired records added
  pub met : (order : List ℕ) → MeetsAll order (earlier ++ added) → (full : Condition)
      → Contains (read_conditions (visible_labels records n) operation) full
      → (condition : Condition) × Narrows records full condition × Meets order condition
  pub possible : IsPossibleRead (visible_labels records n) operation
