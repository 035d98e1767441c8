-- The reasons for which an operation fails before its edges are tested.
use Rattle.std.specs.Prelude.{◌≡◌, ℕ, ◌⊎◌, List, Option, Some, None, Contains}
use Rattle.std.specs.List.{slice_get}
use Rattle.ra_labels.specs.declared.reply.Cause.{Cause}
use Rattle.ra_labels.specs.declared.reply.Cause.TheVariants.{Order, Update, Query}
use Rattle.ra_labels.specs.declared.insertion.Insertion.{Insertion}
use Rattle.ra_labels.specs.Neighborhood.{IsKnown}
use Rattle.ra_list_replica.specs.declared.mark.Mark.{Mark}
use Rattle.ra_list_replica.specs.declared.mark.Mark.TheVariants.{Missing}
use Rattle.ra_list_replica.specs.View.{mark_at}

-- holds if the number is the element's, and the replica with these marks has the element, shown or removed
abbrev pub IsHadAs : List ℕ → List Mark → ℕ → ℕ → Type 0
IsHadAs elements marks x number = (slice_get elements number ≡ Some x) × ¬ (mark_at marks number ≡ Missing)

-- holds if the replica has the element
abbrev pub HasElement : List ℕ → List Mark → ℕ → Type 0
HasElement elements marks x = (number : ℕ) × IsHadAs elements marks x number

-- holds if no neighbour is named, or one that the replica has
abbrev pub HasNeighbor : List ℕ → List Mark → ℕ → Type 0
HasNeighbor elements marks x = (x ≡ 0) ⊎ HasElement elements marks x

-- holds if the element is not 0 and was never inserted, and its neighbours, if any are named, were
pub record CanInsert (elements : List ℕ) (insertion : Insertion) : Type 0 where
  pub some : ¬ (insertion.element ≡ 0)
  pub new : ¬ Contains elements insertion.element
  pub left : IsKnown elements insertion.left
  pub right : IsKnown elements insertion.right

-- holds if the replica has the neighbours that are named
abbrev pub HasNeighbors : List ℕ → List Mark → Insertion → Type 0
HasNeighbors elements marks insertion =
    HasNeighbor elements marks insertion.left × HasNeighbor elements marks insertion.right

-- holds if this is why an operation at the replica cannot name the element
abbrev pub IsCauseAt : List ℕ → List Mark → ℕ → Cause → Type 0
IsCauseAt elements marks x Update = ¬ Contains elements x
IsCauseAt elements marks x Query = Contains elements x × ¬ HasElement elements marks x
IsCauseAt elements marks x Order = ⊥

-- holds if this is why an insertion cannot name the neighbour; none if it can
abbrev pub IsCauseOfNeighbor : List ℕ → List Mark → ℕ → Option Cause → Type 0
IsCauseOfNeighbor elements marks x None = HasNeighbor elements marks x
IsCauseOfNeighbor elements marks x (Some cause) = (¬ (x ≡ 0)) × IsCauseAt elements marks x cause

-- the cause that is tested first, of those of the two neighbours
abbrev pub first_cause : Option Cause → Option Cause → Option Cause
first_cause None right = right
first_cause (Some Update) right = Some Update
first_cause left (Some Update) = Some Update
first_cause left _ = left

-- holds if this is the reason for which the insertion fails at the replica, apart from its edges; none if there is none
abbrev pub IsCauseOfInsertion : List ℕ → List Mark → Insertion → Option Cause → Type 0
IsCauseOfInsertion elements marks insertion None =
    CanInsert elements insertion × HasNeighbors elements marks insertion
IsCauseOfInsertion elements marks insertion (Some Update) = ¬ CanInsert elements insertion
IsCauseOfInsertion elements marks insertion (Some Query) =
    CanInsert elements insertion × ¬ HasNeighbors elements marks insertion
IsCauseOfInsertion elements marks insertion (Some Order) = ⊥
