-- Lemmas on the uniqueness of the named order: sorted lists with the same elements are equal.
use Rattle.std.proofs.Common.{◌≡◌, ℕ, suc, ◌+◌, ◌<◌, true, false, eqb, List, [], ◌∷◌, Some, refl, sym, ap, ◌∙◌, subst, inl, inr, arith, Ordering}
use Rattle.std.specs.Prelude.{IsPermutation, IsSorted, All, Contains, count_by, cond}
use Rattle.std.specs.Ordering.{is_lt, is_eq, ordering_reverse, ordering_then, nat_cmp}
use Rattle.std.specs.declared.cmp.Ordering.TheVariants.{Less, Equal, Greater}
use Rattle.std.specs.Cmp.{IsTotalOrder, Equal-is}
use Rattle.std.proofs.lemmas.Bool.{false≢true, cases_Bool, cond-true, eq-eqb}
use Rattle.std.proofs.lemmas.Cmp.{tied_itself, ranked}
use Rattle.std.proofs.lemmas.Option.{same_Some}
use Rattle.std.proofs.lemmas.List.Elements.{All-head, All-tail, All-contains, All-contains_itself}
use Rattle.std.proofs.lemmas.List.Sums.{sum_by-cons}
use Rattle.std.proofs.lemmas.List.Sorted.{sorted_far, ranks_by, sum_by-IsPermutation, All-permutation}
use Rattle.ra_labels.specs.declared.kind.Kind.{Kind}
use Rattle.ra_labels.specs.declared.label.Label.{Label}
use Rattle.ra_labels.specs.declared.command.Command.TheVariants.{Operate}
use Rattle.ra_labels.specs.Records.{Records, label_count, labels_of, label_at, next_label}
use Rattle.ra_labels.specs.NamedOrder.{rank_of, stamp_cmp, label_cmp, named_labels}
use Rattle.ra_labels.proofs.Members.{head_or_behind}
use Rattle.ra_labels.proofs.Counted.{numbers_below_count}
use Rattle.ra_theorems.proofs.LabelNumbers.{label_at-append}
use Rattle.ra_theorems.proofs.Order.{label_cmp-total, IsSorted-named_labels, IsPermutation-named_labels}

-- two elements of which neither is less compare as equal
pub neither_below : (o p : Ordering) → o ≡ ordering_reverse p → is_lt o ≡ false → is_lt p ≡ false → is_eq o ≡ true
neither_below o Less e lt gt = absurd (false≢true (sym gt))
neither_below o Equal e lt gt = ap is_eq e
neither_below o Greater e lt gt = absurd (false≢true (sym lt ∙ ap is_lt e))

module _ {A : Type 0} (cmp : A → A → Ordering) (total : IsTotalOrder cmp) where
  -- the number of elements of the list that compare as equal to z
  abbrev ties : A → List A → ℕ
  ties z xs = count_by (λ w. is_eq (cmp z w)) xs

  abbrev weight : A → A → ℕ
  weight z w = cond (is_eq (cmp z w)) 1 0

  ties-cons : (z x : A) (xs : List A) → ties z (x ∷ xs) ≡ weight z x + ties z xs
  ties-cons z x xs = sum_by-cons (weight z) x xs

  -- if the number is positive, there is such an element
  tie_found : (z : A) (xs : List A) → 0 < ties z xs → (w : A) × Contains xs w × (cmp z w ≡ Equal)
  tie_found z [] some = absurd (omega arith)
  tie_found z (x ∷ xs) some = elim (cases_Bool (is_eq (cmp z x))) [
    | inl here ↦ (x, (0, omega arith, refl), (Equal-is (cmp z x)).0 here)
    | inr other ↦
        let none : weight z x ≡ 0 = rw other in
        let rest = tie_found z xs (omega (arith, ties-cons z x xs)) in
        (rest.0, (suc rest.1.0, omega (arith, rest.1.1), rest.1.2), rest.2)
  ]

  -- in a sorted list no element is less than the head
  pub head_least : (x : A) (xs : List A) → IsSorted cmp (x ∷ xs) → (w : A) → Contains (x ∷ xs) w
      → is_lt (cmp w x) ≡ false
  head_least x xs sorted w (k, within, is) =
      subst (λ v. is_lt (cmp v x) ≡ false) is
      (sorted_far (λ v u. is_lt (cmp v u)) (ranks_by total (λ v. v)) (x ∷ xs) sorted 0 k w (omega arith) within)

  pub sorted_behind : (x : A) (xs : List A) → IsSorted cmp (x ∷ xs) → IsSorted cmp xs
  sorted_behind x xs sorted k d low high =
      let further : suc k + 1 ≡ suc (k + 1) = omega arith in
      let next = sorted (suc k) d (omega arith) (omega arith) in
      rw further at next

  -- the head of one list is not less than the head of the other
  head_not_below : (x y : A) (xs ys : List A) → ((z : A) → ties z (x ∷ xs) ≡ ties z (y ∷ ys)) → IsSorted cmp (y ∷ ys)
      → is_lt (cmp x y) ≡ false
  head_not_below x y xs ys same sorted =
      let itself : weight x x ≡ 1 = rw (tied_itself total x) in
      let there = tie_found x (y ∷ ys) (omega (arith, ties-cons x x xs, same x, itself)) in
      ap is_lt (total.congr x there.0 y there.2) ∙ head_least y ys sorted there.0 there.1

  -- two sorted lists in which each element is counted equally often are equal, if elements that compare as equal are
  -- equal
  same_order : (P : A → Type 0) → ((v w : A) → P v → P w → cmp v w ≡ Equal → v ≡ w) → (xs ys : List A) → All P xs
      → All P ys → IsSorted cmp xs → IsSorted cmp ys → ((z : A) → ties z xs ≡ ties z ys) → xs ≡ ys
  same_order P alike [] [] all_xs all_ys up_xs up_ys same = refl
  same_order P alike [] (y ∷ ys) all_xs all_ys up_xs up_ys same =
      let itself : weight y y ≡ 1 = rw (tied_itself total y) in
      absurd (omega (arith, same y, ties-cons y y ys, itself))
  same_order P alike (x ∷ xs) [] all_xs all_ys up_xs up_ys same =
      let itself : weight x x ≡ 1 = rw (tied_itself total x) in
      absurd (omega (arith, same x, ties-cons x x xs, itself))
  same_order P alike (x ∷ xs) (y ∷ ys) all_xs all_ys up_xs up_ys same =
      let not_below = head_not_below x y xs ys same up_ys in
      let not_above = head_not_below y x ys xs (λ z. sym (same z)) up_xs in
      let tie = (Equal-is (cmp x y)).0 (neither_below (cmp x y) (cmp y x) (total.antisymm x y) not_below not_above) in
      let heads : x ≡ y = alike x y (All-head P x xs all_xs) (All-head P y ys all_ys) tie in
      let rest = same_order P alike xs ys (All-tail P x xs all_xs) (All-tail P y ys all_ys) (sorted_behind x xs up_xs)
      (sorted_behind y ys up_ys) (λ z.
      let weights : weight z x ≡ weight z y = ap (weight z) heads in
      omega (arith, same z, ties-cons z x xs, ties-cons z y ys, weights)) in
      λ i. heads i ∷ rest i

-- a label is found at its number
pub label_found : (records : Records) (label : Label) → Contains (labels_of records) label
    → label_at records label.number ≡ Some label
label_found [] label (k, within, is) = absurd (omega arith)
label_found (Operate by op clock ∷ before) label found =
    elim (head_or_behind (next_label before by op clock) (labels_of before) label found) [
      | inl newest ↦ cond-true (eqb (label_count before) label.number) _ _
          (eq-eqb _ _ (ap (λ (l : Label). l.number) newest)) ∙ ap Some newest
      | inr older ↦
          let below = All-contains (λ l. l.number < label_count before) (labels_of before) label
          (numbers_below_count before) older in
          label_at-append (Operate by op clock ∷ []) before label.number below ∙ label_found before label older
    ]
label_found (_ ∷ before) label found = label_found before label found

same_number : (x y : ℕ) (o : Ordering) → o ≡ nat_cmp x y → is_eq o ≡ true → x ≡ y
same_number x y Less is eq = absurd (false≢true eq)
same_number x y Equal is eq = ranked x y Equal is
same_number x y Greater is eq = absurd (false≢true eq)

second_eq : (o p : Ordering) → is_eq (ordering_then o p) ≡ true → is_eq p ≡ true
second_eq Less p eq = absurd (false≢true eq)
second_eq Equal p eq = eq
second_eq Greater p eq = absurd (false≢true eq)

-- labels that compare as equal in the named order are equal
pub same_label : (kind : Kind) (records : Records) (l m : Label) → Contains (labels_of records) l
    → Contains (labels_of records) m → label_cmp kind records l m ≡ Equal → l ≡ m
same_label kind records l m there_l there_m tie =
    let numbers = same_number l.number m.number (nat_cmp l.number m.number) refl
    (second_eq (stamp_cmp (rank_of kind records l) (rank_of kind records m)) (nat_cmp l.number m.number)
    (ap is_eq tie)) in
    same_Some l m (sym (label_found records l there_l) ∙ ap (label_at records) numbers ∙ label_found records m there_m)

-- a sorted permutation of the labels is the list of named labels
pub named_labels-only : (kind : Kind) (records : Records) (labels : List Label)
    → IsPermutation (labels_of records) labels → IsSorted (label_cmp kind records) labels
    → labels ≡ named_labels kind records
named_labels-only kind records labels same sorted =
    let named = IsPermutation-named_labels kind records in
    same_order
    (label_cmp kind records) (label_cmp-total kind records) (Contains (labels_of records)) (same_label kind records)
    labels
    (named_labels kind records)
    (All-permutation (Contains (labels_of records)) (labels_of records) labels same
    (All-contains_itself (labels_of records)))
    (All-permutation (Contains (labels_of records)) (labels_of records) (named_labels kind records) named
    (All-contains_itself (labels_of records)))
    sorted
    (IsSorted-named_labels kind records)
    (λ z. sum_by-IsPermutation _ (labels_of records) labels same
    ∙ sym (sum_by-IsPermutation _ (labels_of records) (named_labels kind records) named))
