-- The positions of labels in an order, counted from 1.
use Rattle.std.specs.Prelude.{◌≡◌, ◌<◌, ◌≤◌, ℕ, List, length, get_or, Option, Some, None}
use Rattle.ra_labels.specs.Edges.{IsBefore}

-- holds if a label that stands before another one has the lower rank, and each label's rank is above 0 and at most the
-- order's length
pub record AreRanks (count : ℕ) (order : List ℕ) (ranks : List ℕ) : Type 0 where
  pub len : length ranks ≡ count
  pub within : (n : ℕ) → n < count → get_or ranks n 0 ≤ length order
  pub positive : (n : ℕ) → n < count → 0 < get_or ranks n 0
  pub rises : (m n : ℕ) → IsBefore order m n → get_or ranks m 0 < get_or ranks n 0

-- holds if each label's rank is above 0 and above that of the label that inserts what it needs
pub record AreNeedRanks (needed : List (Option ℕ)) (ranks : List ℕ) : Type 0 where
  pub len : length ranks ≡ length needed
  pub positive : (n : ℕ) → n < length needed → 0 < get_or ranks n 0
  pub falls : (n m : ℕ) → n < length needed → get_or needed n None ≡ Some m → get_or ranks m 0 < get_or ranks n 0
