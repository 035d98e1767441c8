-- The list of a replica, as contracts describe it, and the condition that it is that of records.
use Rattle.std.specs.Prelude.{◌≡◌, ◌⊎◌, ℕ, ◌<◌, ◌≤◌, ◌==◌, ◌||◌, ◌&&◌, not, Bool, true, false, List, length, Option, Some, Contains}
use Rattle.std.specs.List.{list_any}
use Rattle.ra_labels.specs.declared.kind.Kind.TheVariants.{Rga}
use Rattle.ra_labels.specs.declared.operation.Update.{Update}
use Rattle.ra_labels.specs.declared.label.Stamp.{Stamp}
use Rattle.ra_labels.specs.declared.label.Label.{Label}
use Rattle.ra_labels.specs.Records.{Records, labels_of}
use Rattle.ra_labels.specs.Visibility.{has_delivered}
use Rattle.ra_labels.specs.NamedOrder.{lowest_rank}
use Rattle.ra_labels.specs.TheoremTerms.{IsStampBelow, HasNoDuplicates}
use Rattle.ra_labels.specs.Insertion.{updates_passing}
use Rattle.ra_labels.specs.Pending.{is_present_element, removes_element, IsSettled}
use Rattle.ra_rga_elements.specs.ElementList.{Arrival, ElementList, is_marked}
use Rattle.ra_rga_replica.specs.declared.edit.Edit.{Edit}
use Rattle.ra_rga_replica.specs.PendingLabels.{labels_under}
use Rattle.ra_rga_replica.specs.Edits.{edit_at, element_at, needed_number, AreElementsOf}

pub record ReplicaList : Type 0 where
  -- for each element, by its number, whether it is in the list
  pub marks : List Bool
  -- for each element, by its number, whether a read shows it
  pub shown : List Bool
  -- the greatest own stamp of a label that was delivered to the replica
  pub greatest : Stamp
  -- for elements, by their numbers, the labels that are pending on them
  pub waiting : List (ℕ × List ℕ)

-- holds if the marked elements are those that are present after the settled updates
pub record AreThere (marks : List Bool) (arrivals : List Arrival) (records : Records)
    (settled : ℕ → Bool) : Type 0 where
  pub there : (number : ℕ) → number < length arrivals
      → is_marked marks number ≡ is_present_element (element_at arrivals number) (updates_passing Rga records settled)
  pub others : (number : ℕ) → length arrivals ≤ number → is_marked marks number ≡ false

-- `true` if the element is present after the updates, is not the root, and none of them removes it
abbrev pub is_shown_element : ℕ → List Update → Bool
is_shown_element x updates =
    is_present_element x updates && not (x == 0 || list_any (removes_element x) updates)

-- holds if the elements that a test shows are those that are shown after the settled updates
pub record AreShown (shows : ℕ → Bool) (arrivals : List Arrival) (records : Records)
    (settled : ℕ → Bool) : Type 0 where
  pub shown : (number : ℕ) → number < length arrivals
      → shows number ≡ is_shown_element (element_at arrivals number) (updates_passing Rga records settled)
  pub others : (number : ℕ) → length arrivals ≤ number → shows number ≡ false

-- holds if no delivered label has a stamp above this one, and one has this stamp or it is the lowest rank
pub record IsGreatestOf (records : Records) (has_delivered : ℕ → Bool) (greatest : Stamp) : Type 0 where
  pub above : (label : Label) (stamp : Stamp) → Contains (labels_of records) label → has_delivered label.number ≡ true
      → label.stamp ≡ Some stamp → ¬ IsStampBelow greatest stamp
  pub own : (greatest ≡ lowest_rank) ⊎ ((label : Label) × Contains (labels_of records) label
      × (has_delivered label.number ≡ true) × (label.stamp ≡ Some greatest))

-- Holds if each delivered label that is not settled is pending under the element that it depends on, and no other label
-- is pending.
pub record AreWaiting (waiting : ℕ → List ℕ) (arrivals : List Arrival) (edits : List (Option Edit)) (records : Records)
    (has_delivered settled : ℕ → Bool) : Type 0 where
  pub waits : (n : ℕ) (edit : Edit) → edit_at edits n ≡ Some edit → has_delivered n ≡ true → settled n ≡ false
      → Contains (waiting (needed_number arrivals edit)) n
  pub only : (number n : ℕ) → Contains (waiting number) n → (edit : Edit) × (edit_at edits n ≡ Some edit)
      × (needed_number arrivals edit ≡ number) × (has_delivered n ≡ true) × (settled n ≡ false)
  pub once : (number : ℕ) → HasNoDuplicates (waiting number)

-- Holds if the shown elements and the marks are those after the settled ones of the delivered labels, and the others
-- are pending.
pub record IsListWith (shows : ℕ → Bool) (marks : List Bool) (waiting : List (ℕ × List ℕ)) (arrivals : List Arrival)
    (edits : List (Option Edit)) (records : Records) (has_delivered settled : ℕ → Bool) : Type 0 where
  pub settles : IsSettled records has_delivered settled
  pub shown : AreShown shows arrivals records settled
  pub there : AreThere marks arrivals records settled
  pub waiting_labels : AreWaiting (labels_under waiting) arrivals edits records has_delivered settled

-- holds if the list is that of the delivered labels
pub record IsListBy (list : ReplicaList) (arrivals : List Arrival) (edits : List (Option Edit)) (records : Records)
    (has_delivered : ℕ → Bool) : Type 0 where
  -- which labels are settled
  pub settled : ℕ → Bool
  pub kept : IsListWith (is_marked list.shown) list.marks list.waiting arrivals edits records has_delivered settled
  pub greatest : IsGreatestOf records has_delivered list.greatest

-- holds if the list is that of the replica
abbrev pub IsListOf : ReplicaList → List Arrival → List (Option Edit) → Records → ℕ → Type 0
IsListOf list arrivals edits records replica = IsListBy list arrivals edits records (has_delivered records replica)

-- the number of these labels' updates that are settled
abbrev pub settled_count : {list : ReplicaList} {arrivals : List Arrival} {edits : List (Option Edit)}
    {records : Records} {has_delivered : ℕ → Bool} → IsListBy list arrivals edits records has_delivered → ℕ
settled_count {records = records} held = length (updates_passing Rga records held.settled)

-- Holds if the label has this edit and, in some records that list and elements represent, was not delivered to the
-- replica.
pub record MayReceive (list : ReplicaList) (all : ElementList) (edits : List (Option Edit)) (label : ℕ)
    (edit : Edit) : Type 0 where
  pub records : Records
  pub replica : ℕ
  pub elements : AreElementsOf all edits records
  pub list_of : IsListOf list all.arrivals edits records replica
  pub edit_of : edit_at edits label ≡ Some edit
  pub new : has_delivered records replica label ≡ false
