-- The elements of the kept order after an insertion.
use Rattle.std.proofs.Common.{◌≡◌, ℕ, List, [], ◌∷◌, ◌++◌, ◌∙◌, Option, Some, None, Result, Ok, Err, refl, sym, ap, subst, inl, inr}
use Rattle.std.specs.Prelude.{◌⊎◌, Contains, OnOk, OnErr}
use Rattle.std.specs.List.Sorted.{IsPermutation}
use Rattle.std.proofs.lemmas.List.{append_assoc}
use Rattle.std.proofs.lemmas.List.Elements.{Contains-append_left, Contains-append_right, Contains-append_cases}
use Rattle.std.proofs.lemmas.List.Sorted.{IsPermutation-sym, Contains-permutation}
use Rattle.ra_labels.proofs.Members.{head_or_behind, at_head, behind_head}
use Rattle.ra_list_order.specs.ListOrder.{IsPut, ListOrder}
use Rattle.ra_list_edges.specs.declared.placing.Placement.{Placement}
use Rattle.ra_list_edges.specs.Placed.{listed, placed}

-- one more element among the others keeps them, and adds no other one
kept_among : (front back : List ℕ) (x y : ℕ) → Contains (front ++ back) y → Contains (front ++ (x ∷ back)) y
kept_among front back x y there = elim (Contains-append_cases front back y there) [
  | inl before ↦ Contains-append_left front (x ∷ back) y before
  | inr behind ↦ Contains-append_right front (x ∷ back) y (behind_head x back y behind)
]

only_among : (front back : List ℕ) (x y : ℕ) → Contains (front ++ (x ∷ back)) y
    → Contains (front ++ back) y ⊎ (y ≡ x)
only_among front back x y there = elim (Contains-append_cases front (x ∷ back) y there) [
  | inl before ↦ inl (Contains-append_left front back y before)
  | inr behind ↦ elim (head_or_behind x back y behind) [
    | inl here ↦ inr (sym here)
    | inr further ↦ inl (Contains-append_right front back y further)
  ]
]

-- whichever neighbour decides, the element is inserted somewhere
put_among : (old new : List ℕ) (left right : Option ℕ) (x : ℕ) → IsPut old left right x new
    → (front back : List ℕ) × (old ≡ front ++ back) × (new ≡ front ++ (x ∷ back))
put_among old new (Some left) right x (front, back, was, is) = (
  front ++ (left ∷ []),
  back,
  was ∙ sym (append_assoc front (left ∷ []) back),
  is ∙ sym (append_assoc front (left ∷ []) (x ∷ back)),
)
put_among old new None (Some right) x (front, back, was, is) = (front, right ∷ back, was, is)
put_among old new None None x is = ([], old, refl, is)

-- after the call of `put`, whatever it returned, no element is gone, and at most the new one came
pub kept_by_put : {T E : Type 0} (r : Result T E) (old new : ListOrder) (left right : Option ℕ) (x : ℕ)
    → OnOk r (IsPut old.order left right x new.order) → OnErr r (new ≡ old)
    → (y : ℕ) → Contains old.order y → Contains new.order y
kept_by_put (Ok t) old new left right x put failed y there =
    let (front, back, was, is) = put_among old.order new.order left right x put in
    subst (λ zs. Contains zs y) (sym is) (kept_among front back x y (subst (λ zs. Contains zs y) was there))
kept_by_put (Err e) old new left right x put failed y there =
    subst (λ (o : ListOrder). Contains o.order y) (sym failed) there

pub only_by_put : {T E : Type 0} (r : Result T E) (old new : ListOrder) (left right : Option ℕ) (x : ℕ)
    → OnOk r (IsPut old.order left right x new.order) → OnErr r (new ≡ old)
    → (y : ℕ) → Contains new.order y → Contains old.order y ⊎ (y ≡ x)
only_by_put (Ok t) old new left right x put failed y there =
    let (front, back, was, is) = put_among old.order new.order left right x put in
    subst (λ zs. Contains zs y ⊎ (y ≡ x)) (sym was) (only_among front back x y (subst (λ zs. Contains zs y) is there))
only_by_put (Err e) old new left right x put failed y there =
    inl (subst (λ (o : ListOrder). Contains o.order y) failed there)

pub there_by_put : {T E : Type 0} (r : Result T E) (old new : List ℕ) (left right : Option ℕ) (x : ℕ)
    → OnOk r (IsPut old left right x new) → OnOk r (Contains new x)
there_by_put (Ok t) old new left right x put =
    let (front, back, was, is) = put_among old new left right x put in
    subst (λ zs. Contains zs x) (sym is) (Contains-append_right front (x ∷ back) x (at_head x back x refl))
there_by_put (Err e) old new left right x put = tt

-- an order that is then permuted has these elements still, and at most the new one besides
pub kept_in_turn : (old put new : List ℕ) → ((y : ℕ) → Contains old y → Contains put y) → IsPermutation put new
    → (y : ℕ) → Contains old y → Contains new y
kept_in_turn old put new kept moved y there = Contains-permutation put new y moved (kept y there)

pub only_in_turn : (old put new : List ℕ) (x : ℕ) → ((y : ℕ) → Contains put y → Contains old y ⊎ (y ≡ x))
    → IsPermutation put new → (y : ℕ) → Contains new y → Contains old y ⊎ (y ≡ x)
only_in_turn old put new x only moved y there =
    only y (Contains-permutation new put y (IsPermutation-sym put new moved) there)

-- the elements of a placement, once it is known which neighbours it names
pub placed_is : (placement : Placement) (left right : Option ℕ) → placement.left ≡ left → placement.right ≡ right
    → listed left ++ (placement.element ∷ listed right) ≡ placed placement
placed_is placement left right before behind =
    let first = ap (λ l. listed l ++ (placement.element ∷ listed placement.right)) before in
    sym (first ∙ ap (λ r. listed left ++ (placement.element ∷ listed r)) behind)
