-- The positions of labels in an order, counted from 1; 0 is that of a label that is not in it.
use Rattle.std.specs.Prelude.{◌≡◌, ◌<◌, ◌≤◌, ◌↔◌, ◌&&◌, ℕ, Bool, true, List, get_or, nat_lt, Contains}
use Rattle.ra_labels.specs.Edges.{IsBefore}

-- `true` if both labels have a position, and that of a is below that of b
abbrev pub is_before_by_position : List ℕ → ℕ → ℕ → Bool
is_before_by_position positions a b =
    nat_lt 0 (get_or positions a 0) && nat_lt (get_or positions a 0) (get_or positions b 0)

-- holds if the positions of two labels show which of them stands before the other one in the order
abbrev pub ArePositions : List ℕ → List ℕ → Type 0
ArePositions order positions = (a b : ℕ) → (is_before_by_position positions a b ≡ true) ↔ IsBefore order a b

-- holds if no position of these labels is greater than this one, and it is one of theirs unless it is 0
pub record IsLastPosition (positions labels : List ℕ) (last : ℕ) : Type 0 where
  pub most : (c : ℕ) → Contains labels c → get_or positions c 0 ≤ last
  pub some : 0 < last → (c : ℕ) × Contains labels c × (get_or positions c 0 ≡ last)
