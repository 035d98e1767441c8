-- Fewer labels that require as much: of the visible labels those that no other visible one sees.
use Rattle.std.specs.Prelude.{◌≡◌, ℕ, ◌⊎◌, ◌||◌, Bool, true, List, Contains}
use Rattle.ra_labels.specs.declared.operation.Op.{Op}
use Rattle.ra_labels.specs.declared.label.Label.{Label}
use Rattle.ra_labels.specs.Edges.{IsBefore}
use Rattle.ra_labels.specs.Records.{Records}
use Rattle.ra_labels.specs.Visibility.{is_update_at, sees}
use Rattle.ra_some_order.specs.VisibleUpdates.{visible_labels}

-- `true` of every operation
abbrev pub anything : Op → Bool
anything operation = true

-- `true` if the operation passes one of the tests
abbrev pub either : (Op → Bool) → (Op → Bool) → Op → Bool
either first second operation = first operation || second operation

-- Holds if the labels are visible to label n, and each other visible one whose operation passes the test is seen by a
-- visible one that passes. The last visible one of each replica that passes is enough, as a replica sees its updates.
pub record Cover (records : Records) (n : ℕ) (passes : Op → Bool) (labels : List Label) : Type 0 where
  pub visible : (label : Label) → Contains labels label → Contains (visible_labels records n) label
  pub covered : (label : Label) → Contains (visible_labels records n) label → passes label.op ≡ true
      → Contains labels label ⊎ ((other : Label) × Contains (visible_labels records n) other
      × (passes other.op ≡ true) × (sees records other.number label.number ≡ true))

-- holds if each update comes after those that it sees
abbrev pub ExtendsVisibility : Records → List ℕ → Type 0
ExtendsVisibility records order =
    (n m : ℕ) → is_update_at records n ≡ true → sees records n m ≡ true → IsBefore order m n
