-- The condition that the structure of an RGA represents records.
use Rattle.std.specs.Prelude.{◌≡◌, ℕ, ◌+◌, ◌<◌, ◌≤◌, ◌∷◌, true, length, Option, Some}
use Rattle.std.specs.List.{slice_get}
use Rattle.ra_labels.specs.declared.kind.Kind.TheVariants as variant
use Rattle.ra_labels.specs.declared.operation.Op.{Op}
use Rattle.ra_labels.specs.declared.operation.Op.TheVariants.{After, RgaRemove}
use Rattle.ra_labels.specs.declared.label.Label.{Label}
use Rattle.ra_labels.specs.declared.label.Stamp.{Stamp}
use Rattle.ra_labels.specs.Records.{Records, label_count, replica_count}
use Rattle.ra_labels.specs.Linearization.{updates_admitted}
use Rattle.ra_labels.specs.NamedOrder.{named_sequence}
use Rattle.ra_labels.specs.HistorySoFar.{history_of, NextOperation, operate}
use Rattle.ra_rga_replica.specs.Edits.{AreElementsOf, element_at}
use Rattle.ra_rga_replica.specs.ReplicaList.{ReplicaList, IsListOf}
use Rattle.ra_witness.specs.declared.rga.Rga.{Rga}
use Rattle.ra_witness.specs.declared.rga.Found.{Found}
use Rattle.ra_witness.specs.declared.rga.Found.TheVariants as found
use Rattle.ra_witness.specs.Offered.{IsOffered, IsDelivered}

-- holds if the structure has the labels' edits, the elements of all labels, and the list of each replica
pub record IsRgaOf (rga : Rga) (initial_replicas : ℕ) (records : Records) : Type 0 where
  pub elements : AreElementsOf rga.all rga.edits.items records
  pub replicas : length rga.lists.items ≡ replica_count initial_replicas records
  pub lists : (replica : ℕ) (list : ReplicaList) → slice_get rga.lists.items replica ≡ Some list
      → IsListOf list rga.all.arrivals rga.edits.items records replica
  -- at most one element for each label, and the root
  pub few : length rga.all.arrivals ≤ label_count records + 1

-- holds if the operation has no update
pub record IsNoEdit (op : Op) : Type 0 where
  pub no_insertion : (anchor x : ℕ) → ¬ (op ≡ After anchor x)
  pub no_removal : (x : ℕ) → ¬ (op ≡ RgaRemove x)

-- holds if the operation inserts the element, which is new, behind the element with this number
pub record IsInsertionAt (rga : Rga) (op : Op) (number x : ℕ) : Type 0 where
  pub there : number < length rga.all.arrivals
  pub inserts : op ≡ After (element_at rga.all.arrivals number) x
  pub new : (n : ℕ) → n < length rga.all.arrivals → ¬ (element_at rga.all.arrivals n ≡ x)

-- holds if the operation removes the element with this number
pub record IsRemovalAt (rga : Rga) (op : Op) (number : ℕ) : Type 0 where
  pub there : number < length rga.all.arrivals
  pub removes : op ≡ RgaRemove (element_at rga.all.arrivals number)

-- holds if this was found for an operation with this stamp
abbrev pub IsFoundBy : Rga → Op → Option Stamp → Found → Type 0
IsFoundBy rga op stamp found.Nothing = IsNoEdit op
IsFoundBy rga op stamp (found.Anchor number x own) = IsInsertionAt rga op number x × (stamp ≡ Some own)
IsFoundBy rga op stamp (found.Element number) = IsRemovalAt rga op number

-- holds if this was found for the label
abbrev pub IsFoundFor : Rga → Label → Found → Type 0
IsFoundFor rga label found = IsFoundBy rga label.op label.stamp found

-- Holds if, after some records that the structure represents, the label is offered and the updates of all labels are
-- admitted with it.
pub record MayGrow (rga : Rga) (label : Label) : Type 0 where
  pub initial_replicas : ℕ
  pub records : Records
  pub next : NextOperation
  pub stands : IsRgaOf rga initial_replicas records
  pub offered : IsOffered (history_of variant.Rga initial_replicas records) next label
  pub admitted : updates_admitted variant.Rga (named_sequence variant.Rga (operate next ∷ records)) ≡ true

-- holds if the delivery can be reported after some records that the structure represents
pub record MayReceive (rga : Rga) (to n : ℕ) : Type 0 where
  pub initial_replicas : ℕ
  pub records : Records
  pub stands : IsRgaOf rga initial_replicas records
  pub told : IsDelivered (history_of variant.Rga initial_replicas records) to n
