-- Lemmas on elements with keys: they can be put into any order of their keys.
use Rattle.std.proofs.Common.{◌≡◌, ◌↔◌, ℕ, List, [], ◌∷◌, ◌++◌, refl, sym, ap, ◌∙◌, subst, inl, inr}
use Rattle.std.specs.Prelude.{◌⊎◌, map, Contains, IsPermutation}
use Rattle.std.proofs.lemmas.List.Elements.{Contains-append_left, Contains-append_right, Contains-append_cases}
use Rattle.std.proofs.lemmas.List.Sorted.{IsPermutation-refl, IsPermutation-trans, IsPermutation-cons, IsPermutation-middle, IsPermutation-map}
use Rattle.ra_labels.specs.Edges.{EachOnce}
use Rattle.ra_labels.proofs.Members.{head_or_behind, at_head, behind_head, none_there, split_at, reached, from_where}
use Rattle.ra_list_order.proofs.Adds.{once_moved}
use Rattle.ra_list_order.proofs.JoinedChunks.{once_right, once_apart}

module _ {A : Type 0} (key : A → ℕ) where
  -- some order of the elements has these keys
  pub record AreOrdered (xs : List A) (keys : List ℕ) : Type 0 where
    pub ordered : List A
    pub same : IsPermutation xs ordered
    pub keys_are : map key ordered ≡ keys

  -- without one element
  without_one : (before after : List A) (x : A) (n : ℕ) (keys : List ℕ) → key x ≡ n
      → EachOnce (map key (before ++ x ∷ after)) → EachOnce (n ∷ keys)
      → ((m : ℕ) → Contains (map key (before ++ x ∷ after)) m ↔ Contains (n ∷ keys) m)
      → EachOnce (map key (before ++ after)) × ((m : ℕ) → Contains (map key (before ++ after)) m ↔ Contains keys m)
  without_one before after x n keys is once once_keys same =
      let whole = before ++ x ∷ after in
      let moved = IsPermutation-middle before x after in
      let once_moved_keys : EachOnce (key x ∷ map key (before ++ after)) =
      once_moved (map key whole) (key x ∷ map key (before ++ after))
      (IsPermutation-map key whole (x ∷ (before ++ after)) moved) once in (
        once_right (key x ∷ []) (map key (before ++ after)) once_moved_keys,
        λ m. (
          (λ there.
              let (y, found, y_is) = from_where key (before ++ after) m there in
              let in_whole = to_whole y found in
              elim (head_or_behind n keys m ((same m).0
              (subst (Contains (map key whole)) y_is (reached key whole y in_whole)))) [
                | inl here ↦ absurd (once_apart (key x ∷ []) (map key (before ++ after)) m once_moved_keys
                    (at_head (key x) [] m (is ∙ here)) there)
                | inr further ↦ further
              ]),
          (λ there.
              let (y, found, y_is) = from_where key whole m ((same m).1 (behind_head n keys m there)) in
              elim (from_whole y found) [
                | inl here ↦ absurd (once_apart (n ∷ []) keys m once_keys
                    (at_head n [] m (sym is ∙ ap key here ∙ y_is)) there)
                | inr further ↦ subst (Contains (map key (before ++ after))) y_is
                    (reached key (before ++ after) y further)
              ]),
        ),
      )
    where
      to_whole : (y : A) → Contains (before ++ after) y → Contains (before ++ x ∷ after) y
      to_whole y found = elim (Contains-append_cases before after y found) [
        | inl left ↦ Contains-append_left before (x ∷ after) y left
        | inr right ↦ Contains-append_right before (x ∷ after) y (behind_head x after y right)
      ]

      from_whole : (y : A) → Contains (before ++ x ∷ after) y → (x ≡ y) ⊎ Contains (before ++ after) y
      from_whole y found = elim (Contains-append_cases before (x ∷ after) y found) [
        | inl left ↦ inr (Contains-append_left before after y left)
        | inr right ↦ elim (head_or_behind x after y right) [
          | inl here ↦ inl here
          | inr further ↦ inr (Contains-append_right before after y further)
        ]
      ]

  pub in_order_of_keys : (keys : List ℕ) (xs : List A) → EachOnce (map key xs) → EachOnce keys
      → ((m : ℕ) → Contains (map key xs) m ↔ Contains keys m) → AreOrdered xs keys
  in_order_of_keys [] [] once once_keys same = record { ordered = []; same = IsPermutation-refl []; keys_are = refl }
  in_order_of_keys [] (x ∷ xs) once once_keys same =
      absurd (none_there (key x) ((same (key x)).0 (at_head (key x) (map key xs) (key x) refl)))
  in_order_of_keys (n ∷ keys) xs once once_keys same =
      let (x, found, is) = from_where key xs n ((same n).1 (at_head n keys n refl)) in
      let (before, after, split) = split_at xs x found in
      let (rest_once, rest_same) = without_one before after x n keys is (subst (λ ys. EachOnce (map key ys)) split once)
      once_keys (λ m. subst (λ ys. Contains (map key ys) m ↔ Contains (n ∷ keys) m) split (same m)) in
      let rest = in_order_of_keys keys (before ++ after) rest_once
      (once_right (n ∷ []) keys once_keys) rest_same in record {
        ordered = x ∷ rest.ordered;
        same =
            subst (λ ys. IsPermutation ys (x ∷ rest.ordered)) (sym split)
            (IsPermutation-trans (before ++ x ∷ after) (x ∷ (before ++ after)) (x ∷ rest.ordered)
            (IsPermutation-middle before x after) (IsPermutation-cons x (before ++ after) rest.ordered rest.same));
        keys_are = (λ i. is i ∷ rest.keys_are i);
      }
