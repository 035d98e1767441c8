-- Labels that settle one after another once the elements that they depend on are present.
use Rattle.std.specs.Prelude.{◌≡◌, ◌⊎◌, ℕ, ◌+◌, ◌==◌, ◌||◌, ◌&&◌, not, Bool, true, false, List, [], length, fold, Option, Some, None, Contains, if◌then◌else◌}
use Rattle.std.specs.Option.{option_map_or}
use Rattle.std.specs.List.{list_any}
use Rattle.ra_labels.specs.declared.kind.Kind.TheVariants.{Rga}
use Rattle.ra_labels.specs.Records.{Records}
use Rattle.ra_labels.specs.TheoremTerms.{HasNoDuplicates}
use Rattle.ra_labels.specs.Insertion.{updates_passing, or_label}
use Rattle.ra_labels.specs.Pending.{NonePending, IsSettled}
use Rattle.ra_rga_elements.specs.ElementList.{Arrival, ElementList, is_marked}
use Rattle.ra_rga_replica.specs.declared.edit.Edit.{Edit}
use Rattle.ra_rga_replica.specs.declared.edit.Edit.TheVariants.{PutsIn, Removes}
use Rattle.ra_rga_replica.specs.Edits.{edit_at, needed_number, AreElementsOf}
use Rattle.ra_rga_replica.specs.PendingLabels.{labels_under}
use Rattle.ra_rga_replica.specs.ReplicaList.{ReplicaList, AreThere, AreShown, AreWaiting, IsListWith, IsListBy}

-- `true` if the edit inserts the element with this number
abbrev pub puts : ℕ → Edit → Bool
puts number (PutsIn n) = number == n
puts number (Removes n) = false

-- `true` if one of the labels inserts the element with this number
abbrev pub is_put_by : List (Option Edit) → List ℕ → ℕ → Bool
is_put_by edits labels number = list_any (λ label. option_map_or (puts number) (edit_at edits label) false) labels

-- the elements that are shown once the edit is made
abbrev pub shown_with : Option Edit → (ℕ → Bool) → ℕ → Bool
shown_with None shows number = shows number
shown_with (Some (PutsIn n)) shows number = shows number || number == n
shown_with (Some (Removes n)) shows number = shows number && not (number == n)

-- the elements that are shown once the edits of the labels are made, one after another
abbrev pub shown_after : List (Option Edit) → (ℕ → Bool) → List ℕ → ℕ → Bool
shown_after edits shows labels = fold (λ test label. shown_with (edit_at edits label) test) shows labels

-- the labels that are pending on the element with this number; none if one of the labels inserts it
abbrev pub freed_under : List (Option Edit) → List ℕ → (ℕ → List ℕ) → ℕ → List ℕ
freed_under edits labels waiting number = if is_put_by edits labels number then [] else waiting number

-- Holds while labels settle: these labels have settled in addition to those that were settled before the first one, and
-- the elements that the ready ones depend on are present.
pub record IsFreeing (shows : ℕ → Bool) (marks : List Bool) (labels ready : List ℕ) (arrivals : List Arrival)
    (edits : List (Option Edit)) (records : Records) (had settled : ℕ → Bool) (first : ℕ) : Type 0 where
  pub passes : ℕ → Bool
  pub had_them : (n : ℕ) → passes n ≡ true → or_label had first n ≡ true
  pub none_waits : NonePending records passes
  pub shown : AreShown shows arrivals records passes
  pub there : AreThere marks arrivals records passes
  pub older : (n : ℕ) → settled n ≡ true → passes n ≡ true
  pub only : (n : ℕ) → passes n ≡ true → (settled n ≡ true) ⊎ Contains labels n
  pub gone : (n : ℕ) → Contains labels n → passes n ≡ true
  pub next : (n : ℕ) → Contains ready n → (edit : Edit) × (edit_at edits n ≡ Some edit)
      × (or_label had first n ≡ true) × (passes n ≡ false) × (is_marked marks (needed_number arrivals edit) ≡ true)
  pub others : (n : ℕ) (edit : Edit) → edit_at edits n ≡ Some edit → had n ≡ true → passes n ≡ false
      → (is_marked marks (needed_number arrivals edit) ≡ false) ⊎ Contains ready n
  pub itself : (passes first ≡ true) ⊎ Contains ready first
  pub once : HasNoDuplicates ready
  pub count : length (updates_passing Rga records passes) ≡ length (updates_passing Rga records settled) + length labels

-- holds if the list represents what was delivered and the label, with `steps` more settled updates than before
pub record IsListWithAfter (shows : ℕ → Bool) (marks : List Bool) (waiting : List (ℕ × List ℕ))
    (arrivals : List Arrival) (edits : List (Option Edit)) (records : Records) (had older : ℕ → Bool)
    (label steps : ℕ) : Type 0 where
  pub settled : ℕ → Bool
  pub kept : IsListWith shows marks waiting arrivals edits records (or_label had label) settled
  pub count : length (updates_passing Rga records settled) ≡ length (updates_passing Rga records older) + steps

-- Holds if the next list represents the delivery of the label after this many steps, wherever this list is kept and the
-- label, which was not delivered, has this edit.
abbrev pub LeadsTo : ReplicaList → ReplicaList → ElementList → List (Option Edit) → ℕ → Edit → ℕ → Type 0
LeadsTo list next all edits label edit steps =
    (records : Records) (had : ℕ → Bool) → AreElementsOf all edits records
    → (held : IsListBy list all.arrivals edits records had) → edit_at edits label ≡ Some edit → had label ≡ false
    → IsListWithAfter (is_marked next.shown) next.marks next.waiting all.arrivals edits records had held.settled label
    steps

-- holds if the lists have the same content
pub record AreAlike (list next : ReplicaList) : Type 0 where
  pub marks : (number : ℕ) → is_marked next.marks number ≡ is_marked list.marks number
  pub shown : (number : ℕ) → is_marked next.shown number ≡ is_marked list.shown number
  pub greatest : next.greatest ≡ list.greatest
  pub waiting : (number : ℕ) → labels_under next.waiting number ≡ labels_under list.waiting number

-- holds if these labels have settled, from what was kept before the first one, and those are ready
pub record IsAmidst (shows : ℕ → Bool) (marks : List Bool) (labels ready : List ℕ) (waiting : List (ℕ × List ℕ))
    (all : ElementList) (edits : List (Option Edit)) (records : Records) (had settled : ℕ → Bool)
    (first : ℕ) : Type 0 where
  pub elements : AreElementsOf all edits records
  pub settles : IsSettled records had settled
  pub waiting_labels : AreWaiting (labels_under waiting) all.arrivals edits records had settled
  pub new : had first ≡ false
  pub freeing : IsFreeing shows marks labels ready all.arrivals edits records had settled first

-- holds if this is so in some records once the edits of the labels are made
pub record MayGoOn (shows : ℕ → Bool) (marks : List Bool) (labels ready : List ℕ) (waiting : List (ℕ × List ℕ))
    (edits : List (Option Edit)) : Type 0 where
  pub all : ElementList
  pub records : Records
  pub had : ℕ → Bool
  pub settled : ℕ → Bool
  pub first : ℕ
  pub amidst : IsAmidst (shown_after edits shows labels) marks labels ready waiting all edits records had settled first

-- Holds if in some records this content is kept, and the label, which was not delivered, depends on an element that is
-- present.
pub record MayFree (shows : ℕ → Bool) (marks : List Bool) (waiting : List (ℕ × List ℕ)) (edits : List (Option Edit))
    (label : ℕ) : Type 0 where
  pub all : ElementList
  pub records : Records
  pub had : ℕ → Bool
  pub settled : ℕ → Bool
  pub elements : AreElementsOf all edits records
  pub kept : IsListWith shows marks waiting all.arrivals edits records had settled
  pub edit : Edit
  pub edit_of : edit_at edits label ≡ Some edit
  pub new : had label ≡ false
  pub needed : is_marked marks (needed_number all.arrivals edit) ≡ true

-- Holds if these labels have settled after the first one and those are ready, wherever the old content is kept.
abbrev pub AreFreedTo : (ℕ → Bool) → List Bool → List ℕ → List ℕ → List (ℕ × List ℕ) → (ℕ → Bool) → List Bool
    → List (Option Edit) → ℕ → Type 0
AreFreedTo shows marks labels ready waiting old_shows old_marks edits first =
    (all : ElementList) (records : Records) (had settled : ℕ → Bool) (edit : Edit) → AreElementsOf all edits records
    → IsListWith old_shows old_marks waiting all.arrivals edits records had settled → edit_at edits first ≡ Some edit
    → had first ≡ false → is_marked old_marks (needed_number all.arrivals edit) ≡ true
    → IsAmidst shows marks labels ready waiting all edits records had settled first
