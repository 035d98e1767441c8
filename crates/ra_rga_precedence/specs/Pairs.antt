-- What an order has to meet to list labels as they are, pair by pair.
use Rattle.std.specs.Prelude.{◌≡◌, ◌<◌, ◌≤◌, ◌+◌, ◌⊎◌, ℕ, List, [], ◌∷◌, length, get_or, Option}
use Rattle.ra_precedence.specs.Conditions.{Condition, no_condition, condition_at}
use Rattle.ra_rga_precedence.specs.Relations.{LeadsTo, AreApart}
use Rattle.ra_rga_precedence.specs.Neighbors.{edge, IsUnderNext}

-- holds if the label at the place stands above the next one, and the condition is none; or if they are apart, and the
-- condition is that what the second one stands under comes first
abbrev pub IsPair : List (Option ℕ) → List ℕ → ℕ → Condition → Type 0
IsPair needed labels i condition =
    (LeadsTo needed (get_or labels (i + 1) 0) (get_or labels i 0) × (condition ≡ no_condition))
    ⊎ ((left right : ℕ) × AreApart needed (get_or labels i 0) (get_or labels (i + 1) 0) left right
    × (condition ≡ edge right left))

-- holds if these are the conditions of the first pairs among the labels; if these are not all, no order lists the next
-- pair
pub record ArePairs (needed : List (Option ℕ)) (labels : List ℕ) (pairs : List Condition) : Type 0 where
  pub each : (i : ℕ) → i < length pairs → (i + 1 < length labels) × IsPair needed labels i (condition_at pairs i)
  pub end : (length labels ≤ length pairs + 1) ⊎ IsUnderNext needed labels (length pairs)
