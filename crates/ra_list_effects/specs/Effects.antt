-- The condition that effects are those of a past, and what the test of an operation finds.
use Rattle.std.specs.Prelude.{◌≡◌, ◌↔◌, ℕ, ◌<◌, List, Option, Some, None, length, get_or, Contains}
use Rattle.std.specs.List.{slice_get}
use Rattle.ra_labels.specs.declared.edge.Edge.{Edge}
use Rattle.ra_labels.specs.Edges.{HasEdge}
use Rattle.ra_list_replica.specs.Numbers.{AreNumbersOf, HasOneNumberEach}
use Rattle.ra_list_replica.specs.Listing.{AreAsLast}
use Rattle.ra_list_witness.specs.ListWitness.{ListWitness, view_at}
use Rattle.ra_list_witness.specs.Causes.{IsHadAs, CanInsert}
use Rattle.ra_list_witness.specs.Named.{IsPlacement}
use Rattle.ra_labels.specs.declared.list_operation.ListOp.{ListOp}
use Rattle.ra_labels.specs.declared.list_operation.ListOp.TheVariants as op
use Rattle.ra_labels.specs.declared.list_operation.ListUpdate.{ListUpdate}
use Rattle.ra_labels.specs.declared.list_operation.ListUpdate.TheVariants as update
use Rattle.ra_labels.specs.FreeList.{list_step}
use Rattle.ra_list_effects.specs.declared.list_effects.Change.{Change}
use Rattle.ra_list_effects.specs.declared.list_effects.Change.TheVariants.{Show, Hide}
use Rattle.ra_list_effects.specs.declared.list_effects.Found.{Found}
use Rattle.ra_list_effects.specs.declared.list_effects.Found.TheVariants as found
use Rattle.ra_list_effects.specs.Past.{Past, state_at}
use Rattle.ra_list_effects.specs.Views.{IsViewOf}

pub record Effects : Type 0 where
  pub witness : ListWitness
  -- what the delivery of each operation changes, if it has an update
  pub changes : List (Option Change)

-- holds if the change is that of the update
abbrev pub IsChangeOf : List ℕ → Option Change → Option ListUpdate → Type 0
IsChangeOf elements None None = Unit {0}
IsChangeOf elements (Some (Show number)) (Some (update.Put insertion)) =
    slice_get elements number ≡ Some insertion.element
IsChangeOf elements (Some (Hide number)) (Some (update.Hide x)) = slice_get elements number ≡ Some x
IsChangeOf elements _ _ = ⊥

pub record AreChangesOf (elements : List ℕ) (changes : List (Option Change)) (updates : List (Option ListUpdate))
    : Type 0 where
  pub as_many : length changes ≡ length updates
  pub each : (n : ℕ) → n < length updates → IsChangeOf elements (get_or changes n None) (get_or updates n None)

-- holds if the effects are those of the past
pub record AreEffectsOf (effects : Effects) (past : Past) : Type 0 where
  pub once : HasOneNumberEach effects.witness.elements
  pub elements : (x : ℕ) → Contains effects.witness.elements x ↔ Contains past.whole.inserted x
  pub replicas : length effects.witness.views ≡ length past.replicas
  pub views : (replica : ℕ) → IsViewOf effects.witness.elements (view_at effects.witness.views replica).marks
      (state_at past.replicas replica)
  pub changes : AreChangesOf effects.witness.elements effects.changes past.updates
  -- each kept edge is one of an operation, and each edge of an operation is kept, perhaps with another label
  pub required : (edge : Edge) → Contains effects.witness.edges edge → Contains past.edges edge
  pub has : (edge : Edge) → Contains past.edges edge → HasEdge effects.witness.edges edge.before edge.after

-- holds if this was found for the operation at the replica
abbrev pub IsFoundFor : Effects → ℕ → ListOp → Found → Type 0
IsFoundFor effects replica (op.Insert insertion) (found.Insertion placement) =
    CanInsert effects.witness.elements insertion × IsPlacement effects.witness.elements insertion placement
IsFoundFor effects replica (op.Remove x) (found.Element number) =
    IsHadAs effects.witness.elements (view_at effects.witness.views replica).marks x number
IsFoundFor effects replica (op.Read list) (found.Read listed) =
    AreNumbersOf effects.witness.elements list listed.numbers.items
    × AreAsLast (view_at effects.witness.views replica).last listed.numbers.items listed.places.items
IsFoundFor effects replica (op.Part list) (found.Part part) = AreNumbersOf effects.witness.elements list part.items
IsFoundFor effects replica operation other = ⊥

-- holds if the update can be delivered after some past that the effects represent: the replica's state admits it
pub record MayDeliver (effects : Effects) (replica label : ℕ) : Type 0 where
  pub past : Past
  pub stands : AreEffectsOf effects past
  pub there : replica < length past.replicas
  pub update : ListUpdate
  pub found : slice_get past.updates label ≡ Some (Some update)
  pub admitted : ¬ (list_step (state_at past.replicas replica) update ≡ None)
