-- Slots of labels, by which an order of all labels is sorted.
use Rattle.std.specs.Prelude.{◌≡◌, ◌<◌, ◌≤◌, ◌⊎◌, ℕ, true, List, Contains}
use Rattle.ra_labels.specs.Edges.{IsBefore}
use Rattle.ra_labels.specs.Records.{Records}
use Rattle.ra_labels.specs.Visibility.{is_update_at, sees}
use Rattle.ra_labels.specs.Places.{issuer_of}

-- Holds of pairs of a slot and a label if the earlier one of two labels has no higher slot where both are of one
-- replica or the later one sees it, and of two updates the first one in the order has the lower slot.
pub record AreSlots (records : Records) (order : List ℕ) (slots : List (ℕ × ℕ)) : Type 0 where
  pub rises : (x y : ℕ × ℕ) → Contains slots x → Contains slots y → x.1 < y.1
      → (issuer_of records x.1 ≡ issuer_of records y.1) ⊎ (sees records y.1 x.1 ≡ true) → x.0 ≤ y.0
  pub updates : (x y : ℕ × ℕ) → Contains slots x → Contains slots y → is_update_at records x.1 ≡ true
      → is_update_at records y.1 ≡ true → IsBefore order x.1 y.1 → x.0 < y.0

-- holds if updates stand in the new order as in the old one
abbrev pub KeepsOrderOfUpdates : Records → List ℕ → List ℕ → Type 0
KeepsOrderOfUpdates records old new = (m n : ℕ) → is_update_at records m ≡ true → is_update_at records n ≡ true
    → IsBefore old m n → IsBefore new m n
