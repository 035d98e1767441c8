-- The longest beginning of labels that some order lists as they are.
use Rattle.std.specs.Prelude.{◌<◌, ◌≤◌, ◌+◌, ℕ, List, length, take, Contains}
use Rattle.ra_precedence.specs.Conditions.{Condition, IsStuck}
use Rattle.ra_precedence.specs.Lasts.{IsOrderFor}
use Rattle.ra_rga_precedence.specs.declared.beginning.Beginning.{Beginning}

-- holds if a set of labels below the count is stuck for the conditions
abbrev pub SomeStuck : ℕ → List Condition → Type 0
SomeStuck count conditions = (set : List ℕ) × IsStuck conditions set × ((b : ℕ) → Contains set b → b < count)

-- holds if the order meets the conditions up to the beginning's pairs, and none meets them with the next pair
pub record IsLongest (count : ℕ) (conditions : List Condition) (base : ℕ) (it : Beginning) : Type 0 where
  pub within : base + it.pairs ≤ length conditions
  pub order : IsOrderFor count (take (base + it.pairs) conditions) it.order.items
  pub next : base + it.pairs < length conditions → SomeStuck count (take (base + it.pairs + 1) conditions)
