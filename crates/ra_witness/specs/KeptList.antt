-- The condition that the effects of a list's labels represent records.
use Rattle.std.specs.Prelude.{◌≡◌, ◌↔◌, ℕ, map, Option, Some, option_map, Contains}
use Rattle.ra_labels.specs.declared.kind.Kind.TheVariants as kinds
use Rattle.ra_labels.specs.declared.edge.Edge.{Edge}
use Rattle.ra_labels.specs.declared.list_operation.ListOp.{ListOp}
use Rattle.ra_labels.specs.declared.list_operation.ListUpdate.{ListUpdate}
use Rattle.ra_labels.specs.declared.operation.Op.TheVariants as ops
use Rattle.ra_labels.specs.declared.operation.Update.{Update}
use Rattle.ra_labels.specs.declared.operation.Update.TheVariants as updates
use Rattle.ra_labels.specs.declared.label.Label.{Label}
use Rattle.ra_labels.specs.Records.{Records}
use Rattle.ra_labels.specs.ListHistory.{inserted_elements, required_edges}
use Rattle.ra_labels.specs.Rewriting.{updates_of}
use Rattle.ra_labels.specs.Specification.{Listing, state_after}
use Rattle.ra_labels.specs.NamedOrder.{named_sequence}
use Rattle.ra_labels.specs.HistorySoFar.{history_of, NextOperation}
use Rattle.ra_list_effects.specs.declared.list_effects.Found.{Found}
use Rattle.ra_list_effects.specs.Past.{Past}
use Rattle.ra_list_effects.specs.Effects as list_effects
use Rattle.ra_witness.specs.declared.kept_list.KeptList.{KeptList}
use Rattle.ra_witness.specs.Standing.{AreStatesOf}
use Rattle.ra_witness.specs.Offered.{IsOffered, IsDelivered, IsJoinedFrom}

abbrev pub as_update : Option ListUpdate → Option Update
as_update change = option_map updates.List change

-- holds if the past of a list is that of the records
pub record IsPastOf (past : Past) (initial_replicas : ℕ) (records : Records) : Type 0 where
  pub whole : state_after kinds.List (updates_of (named_sequence kinds.List records)) ≡ Some (Listing past.whole)
  pub states : AreStatesOf (map as_update past.updates) (map Listing past.replicas)
      (history_of kinds.List initial_replicas records)
  pub inserted : (x : ℕ) → Contains past.whole.inserted x ↔ Contains (inserted_elements records) x
  pub edges : past.edges ≡ required_edges records
  -- each edge begins at an element that was inserted
  pub begins : (edge : Edge) → Contains (required_edges records) edge → Contains past.whole.inserted edge.before

-- holds if the structure has the effects of the labels
pub record IsListOf (kept : KeptList) (initial_replicas : ℕ) (records : Records) : Type 0 where
  pub past : Past
  pub stands : list_effects.AreEffectsOf kept.effects past
  pub is : IsPastOf past initial_replicas records

-- holds if this was found for the label
abbrev pub IsFoundFor : KeptList → Label → Found → Type 0
IsFoundFor kept label found = (operation : ListOp) × (label.op ≡ ops.List operation)
    × list_effects.IsFoundFor kept.effects label.replica operation found

-- holds if, after some records that the structure represents, the label is offered
pub record MayTake (kept : KeptList) (label : Label) : Type 0 where
  pub initial_replicas : ℕ
  pub records : Records
  pub next : NextOperation
  pub stands : IsListOf kept initial_replicas records
  pub offered : IsOffered (history_of kinds.List initial_replicas records) next label

-- holds if the delivery can be reported after some records that the structure represents
pub record MayReceive (kept : KeptList) (to n : ℕ) : Type 0 where
  pub initial_replicas : ℕ
  pub records : Records
  pub stands : IsListOf kept initial_replicas records
  pub told : IsDelivered (history_of kinds.List initial_replicas records) to n

-- holds if the next replica can join from this one after some records that the structure represents
pub record MayCopy (kept : KeptList) (from : ℕ) : Type 0 where
  pub initial_replicas : ℕ
  pub records : Records
  pub stands : IsListOf kept initial_replicas records
  pub joins : IsJoinedFrom (history_of kinds.List initial_replicas records) from
