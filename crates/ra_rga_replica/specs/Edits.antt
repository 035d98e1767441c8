-- The edits of labels, by the numbers of elements, and the condition that edits and elements are those of records.
use Rattle.std.specs.Prelude.{◌≡◌, ℕ, ◌<◌, Bool, true, List, length, Option, Some, None, get_or, Contains}
use Rattle.ra_labels.specs.declared.kind.Kind.TheVariants.{Rga}
use Rattle.ra_labels.specs.declared.operation.Update.{Update}
use Rattle.ra_labels.specs.declared.operation.Update.TheVariants.{After, RgaRemove}
use Rattle.ra_labels.specs.declared.label.Label.{Label}
use Rattle.ra_labels.specs.Records.{Records, label_count, labels_of}
use Rattle.ra_labels.specs.Rewriting.{updates_of}
use Rattle.ra_labels.specs.Specification.{Listed, state_after}
use Rattle.ra_labels.specs.Linearization.{updates_admitted}
use Rattle.ra_labels.specs.NamedOrder.{named_sequence}
use Rattle.ra_labels.specs.TheoremTerms.{elements_in}
use Rattle.ra_labels.specs.Insertion.{HasUpdate}
use Rattle.ra_rga_elements.specs.ElementList.{Arrival, ElementList, root, arrival_at}
use Rattle.ra_rga_replica.specs.declared.edit.Edit.{Edit}
use Rattle.ra_rga_replica.specs.declared.edit.Edit.TheVariants.{PutsIn, Removes}

-- the edit of label n, if it has one
abbrev pub edit_at : List (Option Edit) → ℕ → Option Edit
edit_at edits n = get_or edits n None

-- the element with this number
abbrev pub element_at : List Arrival → ℕ → ℕ
element_at arrivals number = (arrival_at arrivals number).element

-- the number of the element that the edit inserts or removes
abbrev pub number_of : Edit → ℕ
number_of (PutsIn number) = number
number_of (Removes number) = number

-- the number of the element that the edit depends on
abbrev pub needed_number : List Arrival → Edit → ℕ
needed_number arrivals (PutsIn number) = (arrival_at arrivals number).anchor
needed_number arrivals (Removes number) = number

-- the update of the edit
abbrev pub update_of : List Arrival → Edit → Update
update_of arrivals (PutsIn number) =
    After (element_at arrivals (arrival_at arrivals number).anchor) (element_at arrivals number)
update_of arrivals (Removes number) = RgaRemove (element_at arrivals number)

-- Holds if these are the labels' edits and the elements are those that the labels insert, in the order of the list
-- after the updates of all labels.
pub record AreElementsOf (list : ElementList) (edits : List (Option Edit)) (records : Records) : Type 0 where
  -- each label that makes an update has its edit at its number, and there is no other edit
  pub count : length edits ≡ label_count records
  pub made : (label : Label) (update : Update) → Contains (labels_of records) label → HasUpdate label.op update
      → (edit : Edit) × (edit_at edits label.number ≡ Some edit) × (update_of list.arrivals edit ≡ update)
  pub makes : (n : ℕ) (edit : Edit) → edit_at edits n ≡ Some edit
      → (label : Label) × Contains (labels_of records) label × (label.number ≡ n)
      × HasUpdate label.op (update_of list.arrivals edit)
  pub known : (n : ℕ) (edit : Edit) → edit_at edits n ≡ Some edit → number_of edit < length list.arrivals
  pub stamp : (label : Label) (number : ℕ) → Contains (labels_of records) label
      → edit_at edits label.number ≡ Some (PutsIn number) → label.stamp ≡ Some (arrival_at list.arrivals number).stamp
  pub unstamped : (label : Label) (number : ℕ) → Contains (labels_of records) label
      → edit_at edits label.number ≡ Some (Removes number) → label.stamp ≡ None
  -- the root is first, and each other element was inserted by a label
  pub some : 0 < length list.arrivals
  pub first : arrival_at list.arrivals 0 ≡ root
  pub came : (number : ℕ) → 0 < number → number < length list.arrivals
      → (n : ℕ) × (edit_at edits n ≡ Some (PutsIn number))
  pub anchored : (number : ℕ) → number < length list.arrivals
      → (arrival_at list.arrivals number).anchor < length list.arrivals
  pub once : (m n : ℕ) → m < length list.arrivals → n < length list.arrivals
      → element_at list.arrivals m ≡ element_at list.arrivals n → m ≡ n
  -- the elements are in the order of the list after all updates
  pub listed : (all : List (ℕ × Bool))
      × (state_after Rga (updates_of (named_sequence Rga records)) ≡ Some (Listed all))
      × (elements_in all ≡ list.elements)

-- Holds if the edits and the elements are those of records by their numbers alone, wherever the elements are in the
-- list.
pub record AreEditsOf (arrivals : List Arrival) (edits : List (Option Edit)) (records : Records) : Type 0 where
  pub admitted : updates_admitted Rga (named_sequence Rga records) ≡ true
  pub made : (label : Label) (update : Update) → Contains (labels_of records) label → HasUpdate label.op update
      → (edit : Edit) × (edit_at edits label.number ≡ Some edit) × (update_of arrivals edit ≡ update)
  pub makes : (n : ℕ) (edit : Edit) → edit_at edits n ≡ Some edit
      → (label : Label) × Contains (labels_of records) label × (label.number ≡ n)
      × HasUpdate label.op (update_of arrivals edit)
  pub known : (n : ℕ) (edit : Edit) → edit_at edits n ≡ Some edit → number_of edit < length arrivals
  pub anchored : (number : ℕ) → number < length arrivals → (arrival_at arrivals number).anchor < length arrivals
  pub once : (m n : ℕ) → m < length arrivals → n < length arrivals
      → element_at arrivals m ≡ element_at arrivals n → m ≡ n
