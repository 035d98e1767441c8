-- Lemmas on sorted slots: their labels are in an order of all labels.
use Rattle.std.proofs.Common.{◌≡◌, ℕ, zero, suc, ◌+◌, ◌-◌, ◌<◌, ◌≤◌, true, false, List, length, get_or, refl, sym, ap, subst, ◌∙◌, inl, inr, arith}
use Rattle.std.specs.Prelude.{◌⊎◌, Contains, IsPermutation}
use Rattle.std.specs.Ordering.{is_lt}
use Rattle.std.specs.List.Sorted.{IsSorted}
use Rattle.std.proofs.lemmas.Bool.{false≢true, cases_lt}
use Rattle.std.proofs.lemmas.List.{length-map, get_or-map, get_or_default}
use Rattle.std.proofs.lemmas.List.Sorted.{IsPermutation-sym, IsPermutation-map, Contains-permutation}
use Rattle.ra_labels.specs.Edges.{IsBefore}
use Rattle.ra_labels.specs.Lists.{pair_cmp}
use Rattle.ra_labels.specs.Records.{Records, label_count}
use Rattle.ra_labels.specs.Visibility.{is_update_at, sees}
use Rattle.ra_labels.specs.Places.{issuer_of}
use Rattle.ra_labels.proofs.Members.{from_where}
use Rattle.ra_list_order.proofs.Adds.{once_moved}
use Rattle.ra_list_order.proofs.Befores.{before_by_places}
use Rattle.ra_theorems.proofs.TheoremIndex.{sees_earlier_updates-earlier, delivered_are_updates-there}
use Rattle.ra_theorems.proofs.OrSets.{pair_below}
use Rattle.ra_precedence.specs.Conditions.{HasEachBelow}
use Rattle.ra_some_order.specs.LabelOrders.{IsOrderOfLabels}
use Rattle.ra_rga_precedence.specs.LabelSlots.{AreSlots, KeepsOrderOfUpdates}
use Rattle.ra_rga_precedence.proofs.LabelSlots.{Slot, labels_at}

-- ---- a slot that is not behind another one
abbrev pub IsNotBehind : Slot → Slot → Type 0
IsNotBehind x y = (x.0 < y.0) ⊎ ((x.0 ≡ y.0) × (x.1 ≤ y.1))

joined : (x y z : Slot) → IsNotBehind x y → IsNotBehind y z → IsNotBehind x z
joined x y z (inl less) (inl further) = inl (omega (arith, less, further))
joined x y z (inl less) (inr (same, low)) = inl (omega (arith, less, same))
joined x y z (inr (same, low)) (inl further) = inl (omega (arith, same, further))
joined x y z (inr (same, low)) (inr (also, further)) = inr (same ∙ also, omega (arith, low, further))

not_behind : (x y : Slot) → is_lt (pair_cmp y x) ≡ false → IsNotBehind x y
not_behind x y later = elim (cases_lt x.0 y.0) [
  | inl less ↦ inl less
  | inr most ↦ elim (cases_lt y.0 x.0) [
    | inl more ↦ absurd (behind (inl more))
    | inr least ↦ elim (cases_lt y.1 x.1) [
      | inl more ↦ absurd (behind (inr (omega (arith, most, least), more)))
      | inr low ↦ inr (omega (arith, most, least), omega (arith, low))
    ]
  ]
]
  where
    behind : ¬ ((y.0 < x.0) ⊎ ((y.0 ≡ x.0) × (y.1 < x.1)))
    behind is = false≢true (sym later ∙ ap is_lt ((pair_below y x).1 is))

far : (slots : List Slot) → IsSorted pair_cmp slots → (i m : ℕ) → i + m < length slots
    → IsNotBehind (get_or slots i (0, 0)) (get_or slots (i + m) (0, 0))
far slots sorted i zero within =
    subst (λ k. IsNotBehind (get_or slots i (0, 0)) (get_or slots k (0, 0))) (omega arith) (inr (refl, omega arith))
far slots sorted i (suc m) within =
    subst (λ k. IsNotBehind (get_or slots i (0, 0)) (get_or slots k (0, 0))) (omega arith)
    (joined (get_or slots i (0, 0)) (get_or slots (i + m) (0, 0)) (get_or slots (i + m + 1) (0, 0))
    (far slots sorted i m (omega (arith, within)))
    (not_behind (get_or slots (i + m) (0, 0)) (get_or slots (i + m + 1) (0, 0))
    (sorted (i + m) (0, 0) (omega arith) (omega (arith, within)))))

-- the lower slot, or the lower label at one slot, stands first
pub sorted_before : (slots : List Slot) → IsSorted pair_cmp slots → (x y : Slot) → Contains slots x
    → Contains slots y → (x.0 < y.0) ⊎ ((x.0 ≤ y.0) × (x.1 < y.1)) → IsBefore (labels_at slots) x.1 y.1
sorted_before slots sorted x y (i, i_within, i_is) (j, j_within, j_is) first = elim (cases_lt i j) [
  | inl less ↦
      before_by_places (labels_at slots) i j x.1 y.1 less (omega (arith, j_within, length-map slots (λ (p : Slot). p.1)))
      (label_is i x i_within i_is) (label_is j y j_within j_is)
  | inr later ↦ absurd (not_first later)
]
  where
    at : (k : ℕ) (z : Slot) → k < length slots → get_or slots k z ≡ z → get_or slots k (0, 0) ≡ z
    at k z within is = get_or_default slots k (0, 0) z within ∙ is

    label_is : (k : ℕ) (z : Slot) → k < length slots → get_or slots k z ≡ z → get_or (labels_at slots) k 0 ≡ z.1
    label_is k z within is =
        get_or-map (λ (p : Slot). p.1) slots k (0, 0) 0 within ∙ ap (λ (p : Slot). p.1) (at k z within is)

    not_first : j ≤ i → ⊥
    not_first later =
        let is : IsNotBehind y x = subst (λ (z : Slot). IsNotBehind z x) (at j y j_within j_is)
        (subst (IsNotBehind (get_or slots j (0, 0))) (ap (λ k. get_or slots k (0, 0)) (reached_so later) ∙ at i x i_within i_is)
        (far slots sorted j (i - j) (omega (arith, later, i_within)))) in
        elim is [
          | inl less ↦ elim first [
            | inl lower ↦ omega (arith, less, lower)
            | inr (low, label) ↦ omega (arith, less, low)
          ]
          | inr (same, label_low) ↦ elim first [
            | inl lower ↦ omega (arith, same, lower)
            | inr (low, label) ↦ omega (arith, label_low, label)
          ]
        ]
      where
        reached_so : j ≤ i → j + (i - j) ≡ i
        reached_so less = omega (arith, less)

-- ---- an order of all labels from their slots
module _ (records : Records) (order : List ℕ) (slots sorted : List Slot) (same : IsPermutation slots sorted)
    (is_sorted : IsSorted pair_cmp sorted) (each : HasEachBelow (label_count records) (labels_at slots))
    (are : AreSlots records order slots) where
  same_labels : IsPermutation (labels_at slots) (labels_at sorted)
  same_labels = IsPermutation-map (λ (p : Slot). p.1) slots sorted same

  back : (x : Slot) → Contains sorted x → Contains slots x
  back x there = Contains-permutation sorted slots x (IsPermutation-sym slots sorted same) there

  each_sorted : HasEachBelow (label_count records) (labels_at sorted)
  each_sorted = record {
    once = once_moved (labels_at slots) (labels_at sorted) same_labels each.once;
    all =
        λ n. (
          (λ below. Contains-permutation (labels_at slots) (labels_at sorted) n same_labels ((each.all n).0 below)),
          (λ there. (each.all n).1 (Contains-permutation (labels_at sorted) (labels_at slots) n
              (IsPermutation-sym (labels_at slots) (labels_at sorted) same_labels) there)),
        );
  }

  slot_of : (n : ℕ) → n < label_count records → (x : Slot) × Contains sorted x × (x.1 ≡ n)
  slot_of n below = from_where (λ (p : Slot). p.1) sorted n ((each_sorted.all n).0 below)

  earlier_before : (m n : ℕ) → m < n → n < label_count records
      → (issuer_of records m ≡ issuer_of records n) ⊎ (sees records n m ≡ true) → IsBefore (labels_at sorted) m n
  earlier_before m n less below how =
      let (x, x_there, x_is) = slot_of m (omega (arith, less, below)) in
      let (y, y_there, y_is) = slot_of n below in
      let ascends : x.1 < y.1 = omega (arith, less, x_is, y_is) in
      let low = are.rises x y (back x x_there) (back y y_there) ascends (subst (λ k. (issuer_of records x.1 ≡ issuer_of records k)
      ⊎ (sees records k x.1 ≡ true)) (sym y_is) (subst (λ k. (issuer_of records k ≡ issuer_of records n)
      ⊎ (sees records n k ≡ true)) (sym x_is) how)) in
      subst (λ k. IsBefore (labels_at sorted) k n) x_is
      (subst (IsBefore (labels_at sorted) x.1) y_is
      (sorted_before sorted is_sorted x y x_there y_there (inr (low, ascends))))

  pub order_from_slots : IsOrderOfLabels records (labels_at sorted) × KeepsOrderOfUpdates records order (labels_at sorted)
  order_from_slots = (
    record {
      each = each_sorted;
      seen = λ n m below seen. earlier_before m n (sees_earlier_updates-earlier records n m seen) below (inr seen);
      replicas = λ m n less below issuer. earlier_before m n less below (inl issuer);
    },
    λ m n m_updates n_updates before.
        let (x, x_there, x_is) = slot_of m (delivered_are_updates-there records m m_updates) in
        let (y, y_there, y_is) = slot_of n (delivered_are_updates-there records n n_updates) in
        let less = are.updates x y (back x x_there) (back y y_there) (ap (is_update_at records) x_is ∙ m_updates)
        (ap (is_update_at records) y_is ∙ n_updates)
        (subst (λ k. IsBefore order x.1 k) (sym y_is) (subst (λ k. IsBefore order k n) (sym x_is) before)) in
        subst (λ k. IsBefore (labels_at sorted) k n) x_is
        (subst (IsBefore (labels_at sorted) x.1) y_is
        (sorted_before sorted is_sorted x y x_there y_there (inl less))),
  )
