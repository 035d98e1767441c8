-- The reason for which an insertion fails, from those of its neighbours.
use Rattle.std.proofs.Common.{◌≡◌, ℕ, List, Option, Some, None, inl, inr}
use Rattle.std.specs.Prelude.{Contains}
use Rattle.ra_labels.specs.declared.reply.Cause.{Cause}
use Rattle.ra_labels.specs.declared.reply.Cause.TheVariants.{Order, Update, Query}
use Rattle.ra_labels.specs.declared.insertion.Insertion.{Insertion}
use Rattle.ra_labels.specs.Neighborhood.{IsKnown}
use Rattle.ra_list_replica.specs.declared.mark.Mark.{Mark}
use Rattle.ra_list_witness.specs.Causes.{HasNeighbor, IsCauseOfNeighbor, IsCauseOfInsertion, first_cause}
use Rattle.ra_list_witness.proofs.Views.{element_there}

module _ (elements : List ℕ) (marks : List Mark) where
  known : (x : ℕ) → HasNeighbor elements marks x → IsKnown elements x
  known x has = elim has [
    | inl none ↦ inl none
    | inr had ↦ inr (element_there elements had.0 x had.1.0)
  ]

  known_elsewhere : (x : ℕ) → IsCauseOfNeighbor elements marks x (Some Query) → IsKnown elements x
  known_elsewhere x cause = inr cause.1.0

  unknown : (x : ℕ) → IsCauseOfNeighbor elements marks x (Some Update) → ¬ IsKnown elements x
  unknown x cause known = elim known [
    | inl none ↦ cause.0 none
    | inr there ↦ cause.1 there
  ]

  lacks : (x : ℕ) → IsCauseOfNeighbor elements marks x (Some Query) → ¬ HasNeighbor elements marks x
  lacks x cause has = elim has [
    | inl none ↦ cause.0 none
    | inr had ↦ cause.1.1 had
  ]

  pub insertion_cause : (insertion : Insertion) (left right : Option Cause) → ¬ (insertion.element ≡ 0)
      → ¬ Contains elements insertion.element → IsCauseOfNeighbor elements marks insertion.left left
      → IsCauseOfNeighbor elements marks insertion.right right
      → IsCauseOfInsertion elements marks insertion (first_cause left right)
  insertion_cause insertion None None some new l r =
      (record { some = some; new = new; left = known insertion.left l; right = known insertion.right r }, (l, r))
  insertion_cause insertion None (Some Update) some new l r = λ can. unknown insertion.right r can.right
  insertion_cause insertion None (Some Query) some new l r = (
    record { some = some; new = new; left = known insertion.left l; right = known_elsewhere insertion.right r },
    (λ has. lacks insertion.right r has.1),
  )
  insertion_cause insertion None (Some Order) some new l r = absurd r.1
  insertion_cause insertion (Some Update) right some new l r = λ can. unknown insertion.left l can.left
  insertion_cause insertion (Some Query) (Some Update) some new l r = λ can. unknown insertion.right r can.right
  insertion_cause insertion (Some Query) None some new l r = (
    record { some = some; new = new; left = known_elsewhere insertion.left l; right = known insertion.right r },
    (λ has. lacks insertion.left l has.0),
  )
  insertion_cause insertion (Some Query) (Some Query) some new l r = (
    record { some = some; new = new; left = known_elsewhere insertion.left l; right = known_elsewhere insertion.right r },
    (λ has. lacks insertion.left l has.0),
  )
  insertion_cause insertion (Some Query) (Some Order) some new l r = absurd r.1
  insertion_cause insertion (Some Order) right some new l r = absurd l.1
