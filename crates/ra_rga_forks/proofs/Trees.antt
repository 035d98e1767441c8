-- The theorems about an RGA's elements as a tree.
use Rattle.std.proofs.Common.{◌≡◌, ◌↔◌, ℕ, Bool, List, [], ◌∷◌, reverse, ap, ◌∙◌, subst}
use Rattle.std.specs.Prelude.{Contains, Some}
use Rattle.std.proofs.lemmas.List.{reverse-reverse}
use Rattle.std.proofs.lemmas.List.Sorted.{IsPermutation-reverse, Contains-permutation}
use Rattle.ra_labels.specs.declared.kind.Kind.TheVariants.{Rga}
use Rattle.ra_labels.specs.declared.operation.Update.{Update}
use Rattle.ra_labels.specs.declared.operation.Update.TheVariants.{After}
use Rattle.ra_labels.specs.Edges.{IsBefore}
use Rattle.ra_labels.specs.Specification.{Listed, state_after}
use Rattle.ra_labels.specs.TheoremTerms.{elements_in}
use Rattle.ra_rga_forks.specs.Forks.{IsWay, IsUnder, IsFork, IsInsertedBefore}
use Rattle.ra_rga_forks.proofs.Orders.{IsOrder, top_first}
use Rattle.ra_rga_forks.proofs.ForkOrders.{newer_first, first_newer}
use Rattle.ra_rga_forks.proofs.ListedOrders.{listed_order, newer_later, later_newer}

-- the updates of before are those of the newest first
pub there_reverse : (us : List Update) (u : Update) → Contains us u → Contains (reverse us) u
there_reverse us u there = Contains-permutation us (reverse us) u (IsPermutation-reverse us) there

way_reverse : (us : List Update) (u : ℕ) (way : List ℕ) (top : ℕ) → IsWay us u way top → IsWay (reverse us) u way top
way_reverse us u [] top is = is
way_reverse us u (a ∷ way) top is = (there_reverse us (After a u) is.0, way_reverse us a way top is.1)

pub order_after : (us : List Update) (list : List (ℕ × Bool)) → state_after Rga us ≡ Some (Listed list)
    → IsOrder (reverse us) (elements_in list)
order_after us list is = listed_order (reverse us) list (ap (state_after Rga) (reverse-reverse us) ∙ is)

pub anchor_first : (us : List Update) (list : List (ℕ × Bool)) (x top : ℕ) → state_after Rga us ≡ Some (Listed list)
    → IsUnder us x top → ¬ (x ≡ top) → IsBefore (elements_in list) top x
anchor_first us list x top is (way, under) apart =
    top_first (reverse us) (elements_in list) x top (order_after us list is) (way, way_reverse us x way top under) apart

pub later_child_first : (us : List Update) (list : List (ℕ × Bool)) (x y left right : ℕ)
    → state_after Rga us ≡ Some (Listed list) → IsFork us x y left right
    → IsBefore (elements_in list) x y ↔ IsInsertedBefore us right left
later_child_first us list x y left right is fork =
    let order = order_after us list is in
    let past = reverse us in
    let left_child = there_reverse us (After fork.anchor left) fork.left_child in
    let right_child = there_reverse us (After fork.anchor right) fork.right_child in
    let under_left : IsUnder past x left = (fork.under_left.0, way_reverse us x fork.under_left.0 left fork.under_left.1) in
    let under_right : IsUnder past y right = (fork.under_right.0, way_reverse us y fork.under_right.0 right fork.under_right.1) in (
      (λ first. subst (λ vs. IsInsertedBefore vs right left) (reverse-reverse us)
          (newer_later past left right
          (first_newer past (elements_in list) fork.anchor left right x y order left_child right_child fork.apart under_left under_right first))),
      (λ later. newer_first past (elements_in list) fork.anchor left right x y order left_child right_child fork.apart
          under_left under_right (later_newer us left right later)),
    )
