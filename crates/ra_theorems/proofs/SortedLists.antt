-- Lemmas on insertion sort: the result is a sorted permutation of the list.
use Rattle.std.proofs.Common.{◌≡◌, zero, suc, ◌+◌, true, false, List, [], ◌∷◌, ◌++◌, refl, sym, ap, ◌∙◌, arith, append_assoc, Ordering}
use Rattle.std.specs.Prelude.{flat_map, IsPermutation, IsSorted, All}
use Rattle.std.specs.Ordering.{is_lt, ordering_reverse}
use Rattle.std.specs.declared.cmp.Ordering.TheVariants.{Less, Equal, Greater}
use Rattle.std.specs.Cmp.{IsTotalOrder}
use Rattle.std.proofs.lemmas.Bool.{cond_both, cond-false, true≢false}
use Rattle.std.proofs.lemmas.List.Elements.{All-head, All-tail}
use Rattle.std.proofs.lemmas.List.Sorted.{IsPermutation-refl, IsPermutation-trans, IsPermutation-append_left}
use Rattle.std.proofs.lemmas.List.Sorted.{IsPermutation-append_right, IsPermutation-append_comm}
use Rattle.ra_labels.specs.NamedOrder.{insert_by, sort_by}

-- swapping the first two blocks is a permutation
IsPermutation-blocks : {B : Type 0} (xs ys zs : List B) → IsPermutation (xs ++ (ys ++ zs)) (ys ++ (xs ++ zs))
IsPermutation-blocks xs ys zs =
    let swapped = IsPermutation-append_left zs (xs ++ ys) (ys ++ xs) (IsPermutation-append_comm xs ys) in
    simp append_assoc at swapped

-- an element that is less than another is not greater
not_above : (o p : Ordering) → o ≡ ordering_reverse p → is_lt o ≡ true → is_lt p ≡ false
not_above o Less e h = absurd (true≢false (sym h ∙ ap is_lt e))
not_above o Equal e h = refl
not_above o Greater e h = refl

module _ {A : Type 0} (cmp : A → A → Ordering) where
  -- an insertion stops at the head, or goes on behind it
  insert_cases : (P : List A → Type 0) (x y : A) (ys : List A) → (is_lt (cmp x y) ≡ true → P (x ∷ y ∷ ys))
      → (is_lt (cmp x y) ≡ false → P (y ∷ insert_by cmp x ys)) → P (insert_by cmp x (y ∷ ys))
  insert_cases P x y ys here further = cond_both (is_lt (cmp x y)) _ _ P here further

  -- inserting an element adds its image
  flat_map-insert_by : {B : Type 0} (f : A → List B) (x : A) (xs : List A)
      → IsPermutation (f x ++ flat_map f xs) (flat_map f (insert_by cmp x xs))
  flat_map-insert_by f x [] = IsPermutation-refl _
  flat_map-insert_by f x (y ∷ ys) =
      insert_cases
      (λ zs. IsPermutation (f x ++ (f y ++ flat_map f ys)) (flat_map f zs)) x y ys
      (λ _. IsPermutation-refl _)
      (λ _. IsPermutation-trans _ _ _ (IsPermutation-blocks (f x) (f y) (flat_map f ys))
      (IsPermutation-append_right (f y) _ _ (flat_map-insert_by f x ys)))

  -- sorting preserves the images of the elements
  pub flat_map-sort_by : {B : Type 0} (f : A → List B) (xs : List A)
      → IsPermutation (flat_map f xs) (flat_map f (sort_by cmp xs))
  flat_map-sort_by f [] = IsPermutation-refl _
  flat_map-sort_by f (x ∷ xs) =
      IsPermutation-trans _ _ _ (IsPermutation-append_right (f x) _ _ (flat_map-sort_by f xs))
      (flat_map-insert_by f x (sort_by cmp xs))

  -- no element is less than the one before it, from x on
  Rises : A → List A → Type 0
  Rises x [] = Unit {0}
  Rises x (y ∷ ys) = (is_lt (cmp y x) ≡ false) × Rises y ys

  RisesAll : List A → Type 0
  RisesAll [] = Unit {0}
  RisesAll (x ∷ xs) = Rises x xs

  IsSorted-rises : (x : A) (xs : List A) → Rises x xs → IsSorted cmp (x ∷ xs)
  unfolding Rises
  IsSorted-rises x [] rises k d low high = absurd (omega arith)
  IsSorted-rises x (y ∷ ys) rises zero d low high = rises.0
  IsSorted-rises x (y ∷ ys) rises (suc k) d low high =
      let further : suc k + 1 ≡ suc (k + 1) = omega arith in
      rw further (IsSorted-rises y ys rises.1 k d (omega arith) (omega arith))

  IsSorted-rises_all : (xs : List A) → RisesAll xs → IsSorted cmp xs
  unfolding RisesAll
  IsSorted-rises_all [] rises = λ k d low high. absurd (omega arith)
  IsSorted-rises_all (x ∷ xs) rises = IsSorted-rises x xs rises

  module _ (total : IsTotalOrder cmp) where
    insert_rises : (x z : A) (xs : List A) → Rises z xs → is_lt (cmp x z) ≡ false → Rises z (insert_by cmp x xs)
    unfolding Rises
    insert_rises x z [] rises above = (above, tt)
    insert_rises x z (y ∷ ys) rises above =
        insert_cases (Rises z) x y ys
        (λ below. (above, (not_above (cmp x y) (cmp y x) (total.antisymm x y) below, rises.1)))
        (λ further. (rises.0, insert_rises x y ys rises.1 further))

    insert_rises_all : (x : A) (xs : List A) → RisesAll xs → RisesAll (insert_by cmp x xs)
    unfolding Rises RisesAll
    insert_rises_all x [] rises = tt
    insert_rises_all x (y ∷ ys) rises =
        insert_cases RisesAll x y ys
        (λ below. (not_above (cmp x y) (cmp y x) (total.antisymm x y) below, rises))
        (λ further. insert_rises x y ys rises further)

    sort_rises : (xs : List A) → RisesAll (sort_by cmp xs)
    unfolding RisesAll
    sort_rises [] = tt
    sort_rises (x ∷ xs) = insert_rises_all x (sort_by cmp xs) (sort_rises xs)

    -- the result of a sort is sorted
    pub IsSorted-sort_by : (xs : List A) → IsSorted cmp (sort_by cmp xs)
    IsSorted-sort_by xs = IsSorted-rises_all (sort_by cmp xs) (sort_rises xs)

  -- a list is the concatenation of its one-element lists
  flat_map-units : (xs : List A) → flat_map (λ x. x ∷ []) xs ≡ xs
  flat_map-units [] = refl
  flat_map-units (x ∷ xs) = ap (λ ys. x ∷ ys) (flat_map-units xs)

  -- sorting is a permutation
  pub IsPermutation-sort_by : (xs : List A) → IsPermutation xs (sort_by cmp xs)
  IsPermutation-sort_by xs =
      let mapped : IsPermutation (flat_map (λ x. x ∷ []) xs) (flat_map (λ x. x ∷ []) (sort_by cmp xs)) =
      flat_map-sort_by (λ x. x ∷ []) xs in
      rw (flat_map-units xs, flat_map-units (sort_by cmp xs)) at mapped

  -- an element that is less than none is inserted at the end
  pub insert_by-last : (x : A) (ys : List A) → All (λ y. is_lt (cmp x y) ≡ false) ys → insert_by cmp x ys ≡ ys ++ x ∷ []
  insert_by-last x [] above = refl
  insert_by-last x (y ∷ ys) above =
      cond-false (is_lt (cmp x y)) _ _ (All-head (λ z. is_lt (cmp x z) ≡ false) y ys above)
      ∙ ap (λ zs. y ∷ zs) (insert_by-last x ys (All-tail (λ z. is_lt (cmp x z) ≡ false) y ys above))
