-- Lemmas on the position at which a label is inserted in the named order.
use Rattle.std.proofs.Common.{◌≡◌, ℕ, zero, suc, ◌+◌, ◌-◌, ◌<◌, ◌≤◌, List, [], ◌∷◌, true, false, length, get_or, Some, refl, sym, ap, ◌∙◌, inl, inr, arith, Ordering}
use Rattle.std.specs.Prelude.{All, Contains}
use Rattle.std.specs.List.{insert, slice_get}
use Rattle.std.specs.List.Sorted.{IsPartitionPoint}
use Rattle.std.specs.declared.cmp.Ordering.TheVariants.{Less, Equal, Greater}
use Rattle.std.specs.Ordering.{is_lt, nat_cmp, ordering_then}
use Rattle.std.proofs.lemmas.Bool.{cond_both, cond-true, cond-false, cases_order, le-ltb, ne_eqb}
use Rattle.std.proofs.lemmas.Option.{get_or_from_slice_get, slice_get_within}
use Rattle.std.proofs.lemmas.List.Elements.{All-get_or, All-contains, Contains-get_or}
use Rattle.std.proofs.lemmas.List.Edits.{length-insert, get_or-insert_below, get_or-insert_above}
use Rattle.std.proofs.lemmas.List.Sorted.{All-permutation, Contains-permutation, IsPermutation-sym}
use Rattle.ra_labels.specs.declared.kind.Kind.{Kind}
use Rattle.ra_labels.specs.declared.label.Label.{Label}
use Rattle.ra_labels.specs.declared.command.Command.TheVariants.{Verdict}
use Rattle.ra_labels.specs.Records.{Records, label_count, labels_of}
use Rattle.ra_labels.specs.NamedOrder.{rank_of, stamp_cmp, label_cmp, insert_by, named_labels}
use Rattle.ra_labels.proofs.Counted.{numbers_below_count}
use Rattle.ra_labels.specs.HistorySoFar.{NextOperation, operate, label_of}
use Rattle.ra_theorems.proofs.TheoremIndex.{named_labels_sorted-same, later_command_preserves_order-rank, later_command_preserves_order-labels}
use Rattle.ra_visibility.specs.declared.order.Place.{Place}
use Rattle.ra_visibility.specs.Order.{IsPlaceOf}

pub named_below_count : (kind : Kind) (records : Records) → All (λ label. label.number < label_count records) (named_labels kind records)
named_below_count kind records =
    All-permutation (λ label. label.number < label_count records) (labels_of records) (named_labels kind records) (named_labels_sorted-same kind records) (numbers_below_count records)

module _ {A : Type 0} where
  -- `insert_by` inserts the element behind those that it is not below
  insert_by_split : (cmp : A → A → Ordering) (x : A) (ys : List A) (p : ℕ) → p ≤ length ys
      → IsPartitionPoint (λ y. is_lt (cmp x y) ≡ false) (λ y. is_lt (cmp x y) ≡ true) ys p → insert_by cmp x ys ≡ insert ys p x
  insert_by_split cmp x [] zero few split = refl
  insert_by_split cmp x [] (suc p) few split = absurd (omega arith)
  insert_by_split cmp x (y ∷ ys) zero few split =
      cond-true (is_lt (cmp x y)) (x ∷ y ∷ ys) (y ∷ insert_by cmp x ys) (split.1 0 x (omega arith) (omega arith))
  insert_by_split cmp x (y ∷ ys) (suc p) few split =
      cond-false (is_lt (cmp x y)) (x ∷ y ∷ ys) (y ∷ insert_by cmp x ys) (split.0 0 x (omega arith) (omega arith))
      ∙ ap (λ zs. y ∷ zs) (insert_by_split cmp x ys p (omega arith) ((λ k d low high. split.0 (suc k) d (omega arith) (omega arith)), (λ k d low high. split.1 (suc k) d (omega arith) (omega arith))))

  -- `insert_by` inserts at some position
  insert_by_somewhere : (cmp : A → A → Ordering) (x : A) (ys : List A) → (p : ℕ) × (p ≤ length ys) × (insert_by cmp x ys ≡ insert ys p x)
  insert_by_somewhere cmp x [] = (0, omega arith, refl)
  insert_by_somewhere cmp x (y ∷ ys) =
      cond_both (is_lt (cmp x y)) (x ∷ y ∷ ys) (y ∷ insert_by cmp x ys) (λ zs. (p : ℕ) × (p ≤ length (y ∷ ys)) × (zs ≡ insert (y ∷ ys) p x))
      (λ _. (0, omega arith, refl))
      (λ _. let rest = insert_by_somewhere cmp x ys in (suc rest.0, omega (arith, rest.1), ap (λ zs. y ∷ zs) rest.2))

pub order_after_verdict : (kind : Kind) (records : Records)
    → named_labels kind (Verdict ∷ records) ≡ named_labels kind records
order_after_verdict kind records = later_command_preserves_order-labels kind Verdict records

-- a new label is inserted into the order of the earlier labels
pub order_with : (kind : Kind) (records : Records) (next : NextOperation)
    → named_labels kind (operate next ∷ records) ≡ insert_by (label_cmp kind (operate next ∷ records)) (label_of records next) (named_labels kind records)
order_with kind records next =
    ap (insert_by (label_cmp kind (operate next ∷ records)) (label_of records next)) (later_command_preserves_order-labels kind (operate next) records)

not_lt_then : (o p : Ordering) → is_lt p ≡ false → is_lt (ordering_then o p) ≡ is_lt o
not_lt_then Less p none = refl
not_lt_then Equal p none = none
not_lt_then Greater p none = refl

number_not_below : (m n : ℕ) → m < n → is_lt (nat_cmp n m) ≡ false
number_not_below m n below = rw (le-ltb n m (omega arith), ne_eqb n m (λ is. absurd (omega arith)))

-- the new label is below exactly the labels of greater rank
below_by_rank : (kind : Kind) (records : Records) (next : NextOperation) (m : Label) → Contains (named_labels kind records) m
    → is_lt (label_cmp kind (operate next ∷ records) (label_of records next) m)
    ≡ is_lt (stamp_cmp (rank_of kind (operate next ∷ records) (label_of records next)) (rank_of kind records m))
below_by_rank kind records next m named =
    let now = operate next ∷ records in
    let x = label_of records next in
    let below = All-contains (λ label. label.number < label_count records) (named_labels kind records) m (named_below_count kind records) named in
    let found = Contains-permutation (named_labels kind records) (labels_of records) m (IsPermutation-sym (labels_of records) (named_labels kind records) (named_labels_sorted-same kind records)) named in
    not_lt_then (stamp_cmp (rank_of kind now x) (rank_of kind now m)) (nat_cmp x.number m.number) (number_not_below m.number x.number below)
    ∙ ap (λ r. is_lt (stamp_cmp (rank_of kind now x) r)) (later_command_preserves_order-rank kind (operate next) records m found)

-- a new label goes behind all labels whose rank is not greater
pub behind_no_greater : (kind : Kind) (records : Records) (next : NextOperation) (at : ℕ) → at ≤ length (named_labels kind records)
    → IsPartitionPoint
    (λ m. is_lt (stamp_cmp (rank_of kind (operate next ∷ records) (label_of records next)) (rank_of kind records m)) ≡ false)
    (λ m. is_lt (stamp_cmp (rank_of kind (operate next ∷ records) (label_of records next)) (rank_of kind records m)) ≡ true)
    (named_labels kind records) at
    → named_labels kind (operate next ∷ records) ≡ insert (named_labels kind records) at (label_of records next)
behind_no_greater kind records next at few split =
    let now = operate next ∷ records in
    let x = label_of records next in
    let named = named_labels kind records in
    order_with kind records next
    ∙ insert_by_split (label_cmp kind now) x named at few (
      (λ k d low high. below_by_rank kind records next (get_or named k d) (Contains-get_or named k d (omega (arith, few))) ∙ split.0 k d low high),
      (λ k d low high. below_by_rank kind records next (get_or named k d) (Contains-get_or named k d high) ∙ split.1 k d low high),
    )

-- the new label stands at only one position
only_position : (xs : List Label) (p at : ℕ) (x : Label) → All (λ label. label.number < x.number) xs → p ≤ length xs → slice_get (insert xs p x) at ≡ Some x → at ≡ p
only_position xs p at x below inside found =
    let is : get_or (insert xs p x) at x ≡ x = get_or_from_slice_get (insert xs p x) at x x found in
    let within = slice_get_within (insert xs p x) at x found in
    let long = length-insert xs p x inside in
    elim (cases_order at p) [
      | inl same ↦ same
      | inr (inl before) ↦
          let older : get_or xs at x ≡ x = sym (get_or-insert_below xs p x x at before inside) ∙ is in
          let less = All-get_or (λ label. label.number < x.number) xs at x (omega arith) below in
          absurd (omega (arith, less, ap (λ (l : Label). l.number) older))
      | inr (inr behind) ↦
          let step : at - 1 + 1 ≡ at = omega arith in
          let older : get_or xs (at - 1) x ≡ x = sym (get_or-insert_above xs p x x (at - 1) (omega arith) inside) ∙ ap (λ k. get_or (insert xs p x) k x) step ∙ is in
          let less = All-get_or (λ label. label.number < x.number) xs (at - 1) x (omega arith) below in
          absurd (omega (arith, less, ap (λ (l : Label). l.number) older))
    ]

-- with a new label, the order is the previous one with the label inserted at its place
pub at_its_place : (kind : Kind) (records : Records) (next : NextOperation) (place : Place) → IsPlaceOf kind records next place
    → (place.at ≤ length (named_labels kind records))
    × (named_labels kind (operate next ∷ records) ≡ insert (named_labels kind records) place.at (label_of records next))
at_its_place kind records next place is =
    let label = label_of records next in
    let named = named_labels kind records in
    let where_ = insert_by_somewhere (label_cmp kind (operate next ∷ records)) label named in
    let inserted = order_with kind records next ∙ where_.2 in
    let same = only_position named where_.0 place.at label (named_below_count kind records) where_.1 (ap (λ ls. slice_get ls place.at) (sym inserted) ∙ is.at) in
    (omega (arith, same, where_.1), inserted ∙ ap (λ p. insert named p label) (sym same))
