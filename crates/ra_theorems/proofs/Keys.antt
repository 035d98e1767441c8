-- Lemmas on a key that is inserted at its position in the order.
use Rattle.std.proofs.Common.{◌≡◌, List, [], ◌∷◌, refl, sym, ap, ◌∙◌, inl, inr, arith, Ordering}
use Rattle.std.specs.Prelude.{◌⊎◌, Contains, All}
use Rattle.std.specs.List.Sorted.{IsStrictlySortedBy}
use Rattle.std.specs.Ordering.{match_ordering, ordering_reverse}
use Rattle.std.specs.declared.cmp.Ordering.TheVariants.{Less, Equal, Greater}
use Rattle.std.specs.List.{list_any}
use Rattle.std.specs.BTreeMap.{is_at}
use Rattle.std.specs.BTreeSet.{BTreeSet, insert_key}
use Rattle.std.specs.Cmp.{IsTotalOrder}
use Rattle.std.proofs.lemmas.List.Elements.{All-contains, All-contains_itself, All-weaker, All-cons, All-from_recursion, recursion_from_All}
use Rattle.std.proofs.lemmas.Map.Views.{All-insert_key, btree_set_contains_iff}
use Rattle.std.proofs.lemmas.Map.Lookups.{CmpEqualImpliesEq, btree_set_from_contains}
use Rattle.ra_labels.proofs.InLists.{bool_same}
use Rattle.ra_labels.proofs.Members.{head_or_behind, at_head, behind_head}

module _ {K : Type 0} (cmp : K → K → Ordering) where
  -- the keys after the insertion
  pub inserted-only : (k q : K) (ks : List K) → Contains (insert_key cmp ks k) q → (q ≡ k) ⊎ Contains ks q
  inserted-only k q ks there =
      All-contains (λ y. (y ≡ k) ⊎ Contains ks y) (insert_key cmp ks k) q
      (All-insert_key cmp k (λ y. (y ≡ k) ⊎ Contains ks y) ks
      (All-weaker (Contains ks) (λ y. (y ≡ k) ⊎ Contains ks y) (λ y found. inr found) ks (All-contains_itself ks))
      (inl refl))
      there

  module _ (exact : (x y : K) → cmp x y ≡ Equal → x ≡ y) where
    inserted-there : (k q : K) (ks : List K) → (q ≡ k) ⊎ Contains ks q → Contains (insert_key cmp ks k) q
    inserted-there k q [] (inl same) = at_head k [] q (sym same)
    inserted-there k q [] (inr there) = absurd (omega (arith, there.1))
    inserted-there k q (x ∷ xs) found = by (cmp k x) refl (inserted-there k q xs) found
      where
        by : (o : Ordering) → cmp k x ≡ o → ((q ≡ k) ⊎ Contains xs q → Contains (insert_key cmp xs k) q)
            → (q ≡ k) ⊎ Contains (x ∷ xs) q
            → Contains (match_ordering o (k ∷ x ∷ xs) (x ∷ xs) (x ∷ insert_key cmp xs k)) q
        by Less is rest (inl same) = at_head k (x ∷ xs) q (sym same)
        by Less is rest (inr there) = behind_head k (x ∷ xs) q there
        by Equal is rest (inl same) = at_head x xs q (sym (exact k x is) ∙ sym same)
        by Equal is rest (inr there) = there
        by Greater is rest (inl same) = behind_head x (insert_key cmp xs k) q (rest (inl same))
        by Greater is rest (inr there) = elim (head_or_behind x xs q there) [
          | inl here ↦ at_head x (insert_key cmp xs k) q here
          | inr further ↦ behind_head x (insert_key cmp xs k) q (rest (inr further))
        ]

    pub inserted-exactly : (k q : K) (ks : List K) → (Contains (insert_key cmp ks k) q → (q ≡ k) ⊎ Contains ks q)
        × ((q ≡ k) ⊎ Contains ks q → Contains (insert_key cmp ks k) q)
    inserted-exactly k q ks = (inserted-only k q ks, inserted-there k q ks)

  -- the keys are still sorted
  pub inserted-sorted : IsTotalOrder cmp → (k : K) (ks : List K) → IsStrictlySortedBy cmp ks
      → IsStrictlySortedBy cmp (insert_key cmp ks k)
  unfolding IsStrictlySortedBy
  inserted-sorted total k [] sorted = (tt, tt)
  inserted-sorted total k (x ∷ xs) sorted = by (cmp k x) refl (inserted-sorted total k xs sorted.1)
    where
      above : All (λ y. cmp x y ≡ Less) xs
      above = All-from_recursion (λ y. cmp x y ≡ Less) xs sorted.0

      by : (o : Ordering) → cmp k x ≡ o → IsStrictlySortedBy cmp (insert_key cmp xs k)
          → IsStrictlySortedBy cmp (match_ordering o (k ∷ x ∷ xs) (x ∷ xs) (x ∷ insert_key cmp xs k))
      by Less is rest = (
        recursion_from_All (λ y. cmp k y ≡ Less) (x ∷ xs)
            (All-cons (λ y. cmp k y ≡ Less) x xs is
            (All-weaker (λ y. cmp x y ≡ Less) (λ y. cmp k y ≡ Less)
            (λ y less. total.trans k x y is less) xs above)),
        sorted,
      )
      by Equal is rest = sorted
      by Greater is rest =
          let below : cmp x k ≡ Less = total.antisymm x k ∙ ap ordering_reverse is in (
            recursion_from_All (λ y. cmp x y ≡ Less) (insert_key cmp xs k)
                (All-insert_key cmp k (λ y. cmp x y ≡ Less) xs above below),
            rest,
          )

  -- sorted lists with the same keys are equal
  pub sorted_same : IsTotalOrder cmp → CmpEqualImpliesEq cmp → (xs ys : List K) → IsStrictlySortedBy cmp xs
      → IsStrictlySortedBy cmp ys
      → ((q : K) → (Contains xs q → Contains ys q) × (Contains ys q → Contains xs q)) → xs ≡ ys
  sorted_same total exact xs ys sorted also same =
      let s : BTreeSet K = record { keys = xs } in
      let t : BTreeSet K = record { keys = ys } in
      btree_set_from_contains total s t sorted also
      (λ q. bool_same (list_any (is_at (cmp q)) xs) (list_any (is_at (cmp q)) ys)
      (λ there. (btree_set_contains_iff total exact t q).1
      ((same q).0 ((btree_set_contains_iff total exact s q).0 there)))
      (λ there. (btree_set_contains_iff total exact s q).1
      ((same q).1 ((btree_set_contains_iff total exact t q).0 there))))
      exact
