-- Vocabulary of the theorems about pending updates of an RGA.
use Rattle.std.specs.Prelude.{◌≡◌, ◌⊎◌, ℕ, ◌==◌, Bool, true, false, not, ◌||◌, List, [], ◌∷◌, map, Contains}
use Rattle.std.specs.List.{list_any}
use Rattle.std.specs.declared.cmp.Ordering.TheVariants.{Less}
use Rattle.ra_labels.specs.declared.kind.Kind.TheVariants.{Rga}
use Rattle.ra_labels.specs.declared.operation.Update.{Update}
use Rattle.ra_labels.specs.declared.operation.Update.TheVariants.{After, RgaRemove}
use Rattle.ra_labels.specs.declared.label.Label.{Label}
use Rattle.ra_labels.specs.Records.{Records, labels_of}
use Rattle.ra_labels.specs.NamedOrder.{label_cmp}
use Rattle.ra_labels.specs.Insertion.{updates_passing, HasUpdate}

-- `true` if the update inserts the element
abbrev pub inserts_element : ℕ → Update → Bool
inserts_element x (After anchor y) = y == x
inserts_element x _ = false

-- `true` if the element is the root, or one of the updates inserts it
abbrev pub is_present_element : ℕ → List Update → Bool
is_present_element x updates = x == 0 || list_any (inserts_element x) updates

-- `true` if the update removes the element
abbrev pub removes_element : ℕ → Update → Bool
removes_element x (RgaRemove y) = y == x
removes_element x _ = false

-- the same entries, each shown exactly if it is not the root and none of the updates removes it
abbrev pub shown_by : List Update → List (ℕ × Bool) → List (ℕ × Bool)
shown_by updates list =
    map (λ entry. (entry.0, not (entry.0 == 0 || list_any (removes_element entry.0) updates))) list

-- the element that an RGA's update depends on: its anchor, or the element that it removes; 0 for other kinds
abbrev pub dependency_of : Update → ℕ
dependency_of (After anchor x) = anchor
dependency_of (RgaRemove x) = x
dependency_of _ = 0

-- holds if one of the labels inserts the element
abbrev pub OneInserts : ℕ → List Label → Type 0
OneInserts x labels =
    (label : Label) × (anchor : ℕ) × Contains labels label × HasUpdate label.op (After anchor x)

-- holds if a label below this one in the named order inserts the element
abbrev pub WasInsertedBelow : Records → Label → ℕ → Type 0
WasInsertedBelow records label x =
    (other : Label) × (anchor : ℕ) × Contains (labels_of records) other × HasUpdate other.op (After anchor x)
    × (label_cmp Rga records other label ≡ Less)

-- holds if each passing update depends on an element that is present after the passing updates
abbrev pub NonePending : Records → (ℕ → Bool) → Type 0
NonePending records passes = (label : Label) (update : Update) → Contains (labels_of records) label
    → HasUpdate label.op update → passes label.number ≡ true
    → is_present_element (dependency_of update) (updates_passing Rga records passes) ≡ true

-- holds if each delivered update that is not settled depends on an element that is not present after the settled ones
abbrev pub OthersPending : Records → (ℕ → Bool) → (ℕ → Bool) → Type 0
OthersPending records had settled = (label : Label) (update : Update) → Contains (labels_of records) label
    → HasUpdate label.op update → had label.number ≡ true → settled label.number ≡ false
    → is_present_element (dependency_of update) (updates_passing Rga records settled) ≡ false

-- holds if each delivered update is settled
abbrev pub AllSettled : Records → (ℕ → Bool) → (ℕ → Bool) → Type 0
AllSettled records had settled = (label : Label) (update : Update) → Contains (labels_of records) label
    → HasUpdate label.op update → had label.number ≡ true → settled label.number ≡ true

-- Holds if the settled labels were delivered, and a delivered update is settled exactly if the element that it depends
-- on is present after the settled ones.
pub record IsSettled (records : Records) (had settled : ℕ → Bool) : Type 0 where
  pub had_them : (n : ℕ) → settled n ≡ true → had n ≡ true
  pub where_needed : (label : Label) (update : Update) → Contains (labels_of records) label → HasUpdate label.op update
      → had label.number ≡ true
      → settled label.number ≡ is_present_element (dependency_of update) (updates_passing Rga records settled)

-- the element that the update inserts, as a list; empty if it inserts none
abbrev pub elements_inserted_by : Update → List ℕ
elements_inserted_by (After anchor x) = x ∷ []
elements_inserted_by _ = []

-- Holds while the updates that were pending on the arrived elements settle: each passing label was delivered and is not
-- pending, each arrived element is present, and each other delivered update is pending or depends on an arrived
-- element.
pub record IsSettling (records : Records) (had passes : ℕ → Bool) (arrived : List ℕ) : Type 0 where
  pub had_them : (n : ℕ) → passes n ≡ true → had n ≡ true
  pub none_waits : NonePending records passes
  pub there : (x : ℕ) → Contains arrived x → is_present_element x (updates_passing Rga records passes) ≡ true
  pub others : (label : Label) (update : Update) → Contains (labels_of records) label → HasUpdate label.op update
      → had label.number ≡ true → passes label.number ≡ false
      → (is_present_element (dependency_of update) (updates_passing Rga records passes) ≡ false)
      ⊎ Contains arrived (dependency_of update)
