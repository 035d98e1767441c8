-- Of two elements, one stands under the other one, or they stand at a fork.
use Rattle.std.proofs.Common.{◌≡◌, ℕ, Bool, List, [], ◌∷◌, reverse, refl, sym, ◌∙◌, subst, inl, inr}
use Rattle.std.specs.Prelude.{◌⊎◌, Contains, Some}
use Rattle.std.proofs.lemmas.Bool.{cases_eq}
use Rattle.std.proofs.lemmas.List.{reverse-reverse}
use Rattle.ra_labels.specs.declared.kind.Kind.TheVariants.{Rga}
use Rattle.ra_labels.specs.declared.operation.Update.{Update}
use Rattle.ra_labels.specs.declared.operation.Update.TheVariants.{After, RgaRemove}
use Rattle.ra_labels.specs.Specification.{Listed, state_after}
use Rattle.ra_labels.specs.TheoremTerms.{elements_in}
use Rattle.ra_labels.proofs.Members.{head_or_behind, at_head, behind_head, none_there}
use Rattle.ra_rga_forks.specs.Forks.{IsWay, IsUnder, IsFork}
use Rattle.ra_rga_forks.proofs.Behind.{behind, in_behind}
use Rattle.ra_rga_forks.proofs.Orders.{IsOrder, inserted_in}
use Rattle.ra_rga_forks.proofs.Trees.{order_after, there_reverse}

-- holds if one of the elements stands under the other one, or they stand at a fork
abbrev AreRelated : List Update → ℕ → ℕ → Type 0
AreRelated us x y = IsUnder us x y ⊎ IsUnder us y x ⊎ ((left right : ℕ) × IsFork us x y left right)

-- the same with more updates
wider_way : (us vs : List Update) → ((u : Update) → Contains us u → Contains vs u) → (x : ℕ) (way : List ℕ) (top : ℕ)
    → IsWay us x way top → IsWay vs x way top
wider_way us vs all x [] top is = is
wider_way us vs all x (a ∷ way) top is = (all (After a x) is.0, wider_way us vs all a way top is.1)

pub wider_under : (us vs : List Update) → ((u : Update) → Contains us u → Contains vs u) → (x top : ℕ) → IsUnder us x top
    → IsUnder vs x top
wider_under us vs all x top (way, is) = (way, wider_way us vs all x way top is)

pub wider_fork : (us vs : List Update) → ((u : Update) → Contains us u → Contains vs u) → (x y left right : ℕ)
    → IsFork us x y left right → IsFork vs x y left right
wider_fork us vs all x y left right fork = record {
  anchor = fork.anchor;
  left_child = all (After fork.anchor left) fork.left_child;
  right_child = all (After fork.anchor right) fork.right_child;
  apart = fork.apart;
  under_left = wider_under us vs all x left fork.under_left;
  under_right = wider_under us vs all y right fork.under_right;
}

wider : (us vs : List Update) → ((u : Update) → Contains us u → Contains vs u) → (x y : ℕ) → AreRelated us x y
    → AreRelated vs x y
wider us vs all x y (inl under) = inl (wider_under us vs all x y under)
wider us vs all x y (inr (inl above)) = inr (inl (wider_under us vs all y x above))
wider us vs all x y (inr (inr (left, right, fork))) = inr (inr (left, right, wider_fork us vs all x y left right fork))

-- the child under which an element stands
top_child : (past : List Update) (v : ℕ) (way : List ℕ) (top : ℕ) → IsWay past v way top → ¬ (v ≡ top)
    → (c : ℕ) × Contains past (After top c) × IsUnder past v c
top_child past v [] top is apart = absurd (apart is)
top_child past v (b ∷ way) top is apart = elim (cases_eq b top) [
  | inl same ↦ (v, subst (λ b. Contains past (After b v)) same is.0, ([], refl))
  | inr other ↦
      let (c, child, rest) = top_child past b way top is.1 other in
      (c, child, (b ∷ rest.0, (is.0, rest.1)))
]

module _ (past : List Update) (before : List ℕ) (anchor x : ℕ) (order : IsOrder past before)
    (anchored : Contains before anchor) (new : ¬ Contains before x) where
  abbrev later : List Update
  later = After anchor x ∷ past

  newest : Contains later (After anchor x)
  newest = at_head (After anchor x) past (After anchor x) refl

  more : (u : Update) → Contains past u → Contains later u
  more u there = behind_head (After anchor x) past u there

  -- the newest element stands where its anchor does
  lowered : (top : ℕ) → IsUnder past anchor top → IsUnder later x top
  lowered top (way, is) = (anchor ∷ way, (newest, wider_way past later more anchor way top is))

  beside : (c v : ℕ) → Contains past (After anchor c) → IsUnder past v c → IsFork later x v x c
  beside c v child under = record {
    anchor = anchor;
    left_child = newest;
    right_child = more (After anchor c) child;
    apart = λ same. new (subst (Contains before) (sym same) (inserted_in past before anchor c order child).0);
    under_left = ([], refl);
    under_right = wider_under past later more v c under;
  }

  turned : (us : List Update) (u v left right : ℕ) → IsFork us u v left right → IsFork us v u right left
  turned us u v left right fork = record {
    anchor = fork.anchor;
    left_child = fork.right_child;
    right_child = fork.left_child;
    apart = λ same. fork.apart (sym same);
    under_left = fork.under_right;
    under_right = fork.under_left;
  }

  newest_first : (v : ℕ) → AreRelated past anchor v → AreRelated later x v
  newest_first v (inl under) = inl (lowered v under)
  newest_first v (inr (inl (way, is))) = elim (cases_eq v anchor) [
    | inl same ↦ inl (anchor ∷ [], (newest, sym same))
    | inr apart ↦
        let (c, child, under) = top_child past v way anchor is apart in
        inr (inr (x, c, beside c v child under))
  ]
  newest_first v (inr (inr (left, right, fork))) = inr (inr (
    left,
    right,
    record {
      anchor = fork.anchor;
      left_child = more (After fork.anchor left) fork.left_child;
      right_child = more (After fork.anchor right) fork.right_child;
      apart = fork.apart;
      under_left = lowered left fork.under_left;
      under_right = wider_under past later more v right fork.under_right;
    },
  ))

  swapped : (us : List Update) (u v : ℕ) → AreRelated us u v → AreRelated us v u
  swapped us u v (inl under) = inr (inl under)
  swapped us u v (inr (inl above)) = inl above
  swapped us u v (inr (inr (left, right, fork))) = inr (inr (right, left, turned us u v left right fork))

  related_now : (u v : ℕ) → Contains (behind anchor x before) u → Contains (behind anchor x before) v
      → ((u v : ℕ) → Contains before u → Contains before v → AreRelated past u v) → AreRelated later u v
  related_now u v there_u there_v earlier = elim (in_behind anchor x before u there_u) [
    | inl u_new ↦ elim (in_behind anchor x before v there_v) [
      | inl v_new ↦ inl ([], u_new ∙ sym v_new)
      | inr v_old ↦
          subst (λ u. AreRelated later u v) (sym u_new) (newest_first v (earlier anchor v anchored v_old))
    ]
    | inr u_old ↦ elim (in_behind anchor x before v there_v) [
      | inl v_new ↦
          subst (AreRelated later u) (sym v_new)
          (swapped later x u (newest_first u (earlier anchor u anchored u_old)))
      | inr v_old ↦ wider past later more u v (earlier u v u_old v_old)
    ]
  ]

related : (past : List Update) (es : List ℕ) → IsOrder past es → (u v : ℕ) → Contains es u → Contains es v
    → AreRelated past u v
related [] es is u v there_u there_v = inl ([], root u there_u ∙ sym (root v there_v))
  where
    root : (w : ℕ) → Contains es w → w ≡ 0
    root w there = elim (head_or_behind 0 [] w (subst (λ ys. Contains ys w) is there)) [
      | inl here ↦ sym here
      | inr further ↦ absurd (none_there w further)
    ]
related (After anchor x ∷ past) es (before, order, anchored, new, is) u v there_u there_v =
    related_now past before anchor x order anchored new u v (subst (λ ys. Contains ys u) is there_u)
    (subst (λ ys. Contains ys v) is there_v) (related past before order)
related (RgaRemove x ∷ past) es is u v there_u there_v =
    wider past (RgaRemove x ∷ past) (λ w there. behind_head (RgaRemove x) past w there) u v
    (related past es is.0 u v there_u there_v)
related (_ ∷ past) es is u v there_u there_v = absurd is

pub fork_or_under : (us : List Update) (list : List (ℕ × Bool)) (x y : ℕ) → state_after Rga us ≡ Some (Listed list)
    → Contains (elements_in list) x → Contains (elements_in list) y → AreRelated us x y
fork_or_under us list x y is there_x there_y =
    wider (reverse us) us
    (λ u there. subst (λ vs. Contains vs u) (reverse-reverse us) (there_reverse (reverse us) u there)) x y
    (related (reverse us) (elements_in list) (order_after us list is) x y there_x there_y)
