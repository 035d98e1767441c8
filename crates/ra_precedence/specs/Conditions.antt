-- Conditions on an order of labels, the orders that meet them, and the sets that rule out every order.
use Rattle.std.specs.Prelude.{ℕ, ◌<◌, ◌↔◌, List, [], length, get_or, Contains}
use Rattle.ra_labels.specs.Edges.{EachOnce, IsBefore}

-- a condition: each label of `before` stands before at least one label of `after`
pub record Condition : Type 0 where
  pub before : List ℕ
  pub after : List ℕ

-- the condition that is at no index
abbrev pub no_condition : Condition
no_condition = record { before = []; after = [] }

abbrev pub condition_at : List Condition → ℕ → Condition
condition_at conditions i = get_or conditions i no_condition

-- holds if the order meets the condition
abbrev pub Meets : List ℕ → Condition → Type 0
Meets order condition = (b : ℕ) → Contains condition.before b
    → (c : ℕ) × Contains condition.after c × IsBefore order b c

abbrev pub MeetsAll : List ℕ → List Condition → Type 0
MeetsAll order conditions = (condition : Condition) → Contains conditions condition → Meets order condition

-- holds if the condition keeps label b from being the last one of the set: all that b may stand before is in the set
pub record HoldsBack (condition : Condition) (set : List ℕ) (b : ℕ) : Type 0 where
  pub before : Contains condition.before b
  pub after : (c : ℕ) → Contains condition.after c → Contains set c

-- holds if the set is not empty, and none of its labels can be the last one of them
pub record IsStuck (conditions : List Condition) (set : List ℕ) : Type 0 where
  pub some : 0 < length set
  pub held : (b : ℕ) → Contains set b
      → (condition : Condition) × Contains conditions condition × HoldsBack condition set b

-- holds if the list has each number below the count once, and nothing else
pub record HasEachBelow (count : ℕ) (order : List ℕ) : Type 0 where
  pub once : EachOnce order
  pub all : (b : ℕ) → (b < count) ↔ Contains order b

-- holds if the conditions name only numbers below the count
pub record NameOnlyBelow (count : ℕ) (conditions : List Condition) : Type 0 where
  pub before : (i b : ℕ) → i < length conditions → Contains (condition_at conditions i).before b → b < count
  pub after : (i c : ℕ) → i < length conditions → Contains (condition_at conditions i).after c → c < count
