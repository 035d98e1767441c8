-- Lemmas on strictly rising lists, membership, and lists with the same elements.
use Rattle.std.proofs.Common.{◌≡◌, ℕ, suc, ◌<◌, Bool, true, false, List, [], ◌∷◌, length, get_or, refl, sym, ap, ◌∙◌, subst, arith}
use Rattle.std.specs.Prelude.{◌↔◌, ◌==◌, ◌||◌, nat_lt, Contains}
use Rattle.std.specs.List.{list_all, list_any, AllByRecursion}
use Rattle.std.specs.List.Sorted.{IsStrictlySortedBy}
use Rattle.std.specs.Ordering.{nat_cmp}
use Rattle.std.specs.declared.cmp.Ordering.TheVariants.{Less}
use Rattle.std.specs.BTreeMap.{is_at}
use Rattle.std.specs.BTreeSet.{BTreeSet}
use Rattle.std.specs.Cmp.{nat_eq_equiv}
use Rattle.std.proofs.lemmas.Bool.{eqb-true, lt-ltb, ltb-true, and_parts, and_from}
use Rattle.std.proofs.lemmas.Cmp.{ranked, nat_cmp_total}
use Rattle.std.proofs.lemmas.List.Elements.{All-contains, All-weaker, All-contains_itself}
use Rattle.std.proofs.lemmas.List.Sums.{AllPass-from_list_all, list_all-from_AllPass}
use Rattle.std.proofs.lemmas.Map.Views.{list_any-from_Contains, Contains-from_any}
use Rattle.std.proofs.lemmas.Map.Lookups.{btree_set_from_contains, exact_unsigned}
use Rattle.ra_labels.specs.Lists.{is_among, have_same_elements, rises}
use Rattle.ra_labels.proofs.Comparisons.{less_cmp, cmp_less, is_at-eqb}
use Rattle.ra_labels.proofs.RisingLists.{rises-index, rises-steps}

-- an element of a list passes a test that all elements pass, and all pass if each element does
pub list_all-contains : {A : Type 0} (p : A → Bool) (xs : List A) (y : A) → list_all p xs ≡ true → Contains xs y → p y ≡ true
list_all-contains p xs y pass found = All-contains (λ x. p x ≡ true) xs y (AllPass-from_list_all p xs pass) found

pub list_all-from_contains : {A : Type 0} (p : A → Bool) (xs : List A) → ((y : A) → Contains xs y → p y ≡ true) → list_all p xs ≡ true
list_all-from_contains p xs pass = list_all-from_AllPass p xs (All-weaker (Contains xs) (λ y. p y ≡ true) pass xs (All-contains_itself xs))

-- `is_among` decides membership
pub among-exactly : (x : ℕ) (xs : List ℕ) → (is_among x xs ≡ true) ↔ Contains xs x
among-exactly x xs = (Contains-from_any eqb-true x xs, list_any-from_Contains nat_eq_equiv x xs)

-- `have_same_elements` decides whether two lists have the same elements
pub same-exactly : (xs ys : List ℕ) → (have_same_elements xs ys ≡ true) ↔ ((x : ℕ) → Contains xs x ↔ Contains ys x)
same-exactly xs ys = (
  (λ same x.
      let parts = and_parts (list_all (λ y. is_among y ys) xs) (list_all (λ y. is_among y xs) ys) same in (
        (λ there. (among-exactly x ys).0 (list_all-contains (λ y. is_among y ys) xs x parts.0 there)),
        (λ there. (among-exactly x xs).0 (list_all-contains (λ y. is_among y xs) ys x parts.1 there)),
      )),
  (λ each.
      and_from (list_all (λ y. is_among y ys) xs) (list_all (λ y. is_among y xs) ys)
      (list_all-from_contains (λ y. is_among y ys) xs (λ x there. (among-exactly x ys).1 ((each x).0 there)))
      (list_all-from_contains (λ y. is_among y xs) ys (λ x there. (among-exactly x xs).1 ((each x).1 there)))),
)

pub same-itself : (xs : List ℕ) → have_same_elements xs xs ≡ true
same-itself xs = (same-exactly xs xs).1 (λ x. ((λ there. there), (λ there. there)))

-- a list rises exactly if each element is less than all elements behind it
pub rises-exactly : (xs : List ℕ) → (rises xs ≡ true) ↔ ((i j : ℕ) → i < j → j < length xs → get_or xs i 0 < get_or xs j 0)
rises-exactly xs = (rises-index xs, (λ less. rises-steps xs (λ k below. less k (suc k) (omega arith) below)))

any_same : (p q : ℕ → Bool) (xs : List ℕ) → ((x : ℕ) → p x ≡ q x) → list_any p xs ≡ list_any q xs
any_same p q [] same = refl
any_same p q (x ∷ xs) same = ap (λ b. b || list_any p xs) (same x) ∙ ap (λ b. q x || b) (any_same p q xs same)

-- `rises` is equivalent to std's `IsStrictlySortedBy`
below_less : (x : ℕ) (xs : List ℕ) → list_all (λ y. nat_lt x y) xs ≡ true → AllByRecursion (λ y. nat_cmp x y ≡ Less) xs
below_less x [] all = tt
below_less x (y ∷ ys) all =
    let parts = and_parts (nat_lt x y) (list_all (λ z. nat_lt x z) ys) all in
    (less_cmp x y (ltb-true x y parts.0), below_less x ys parts.1)

less_below : (x : ℕ) (xs : List ℕ) → AllByRecursion (λ y. nat_cmp x y ≡ Less) xs → list_all (λ y. nat_lt x y) xs ≡ true
less_below x [] all = refl
less_below x (y ∷ ys) all =
    and_from (nat_lt x y) (list_all (λ z. nat_lt x z) ys) (lt-ltb x y (cmp_less x y (nat_cmp x y) (ranked x y _ refl) all.0)) (less_below x ys all.1)

pub rises-to_sorted : (xs : List ℕ) → rises xs ≡ true → IsStrictlySortedBy nat_cmp xs
unfolding IsStrictlySortedBy
rises-to_sorted [] up = tt
rises-to_sorted (x ∷ xs) up =
    let parts = and_parts (list_all (λ y. nat_lt x y) xs) (rises xs) up in
    (below_less x xs parts.0, rises-to_sorted xs parts.1)

pub sorted-to_rises : (xs : List ℕ) → IsStrictlySortedBy nat_cmp xs → rises xs ≡ true
unfolding IsStrictlySortedBy
sorted-to_rises [] sorted = refl
sorted-to_rises (x ∷ xs) sorted =
    and_from (list_all (λ y. nat_lt x y) xs) (rises xs) (less_below x xs sorted.0) (sorted-to_rises xs sorted.1)

pub rises-sorted : (xs : List ℕ) → (rises xs ≡ true) ↔ IsStrictlySortedBy nat_cmp xs
rises-sorted xs = (rises-to_sorted xs, sorted-to_rises xs)

-- rising lists with the same elements are equal
pub bool_same : (a b : Bool) → (a ≡ true → b ≡ true) → (b ≡ true → a ≡ true) → a ≡ b
bool_same true b to from = sym (to refl)
bool_same false true to from = from refl
bool_same false false to from = refl

pub rising_same : (xs ys : List ℕ) → rises xs ≡ true → rises ys ≡ true → have_same_elements xs ys ≡ true → xs ≡ ys
rising_same xs ys up also same =
    let s : BTreeSet ℕ = record { keys = xs } in
    let t : BTreeSet ℕ = record { keys = ys } in
    btree_set_from_contains nat_cmp_total s t (rises-to_sorted xs up) (rises-to_sorted ys also)
    (λ q.
    let each = (same-exactly xs ys).0 same q in
    any_same (is_at (nat_cmp q)) (λ y. q == y) xs (is_at-eqb q)
    ∙ bool_same (is_among q xs) (is_among q ys) (λ there. (among-exactly q ys).1 (each.0 ((among-exactly q xs).0 there))) (λ there. (among-exactly q xs).1 (each.1 ((among-exactly q ys).0 there)))
    ∙ sym (any_same (is_at (nat_cmp q)) (λ y. q == y) ys (is_at-eqb q)))
    exact_unsigned

pub rising-same : (xs ys : List ℕ) → rises xs ≡ true → rises ys ≡ true → (have_same_elements xs ys ≡ true) ↔ (xs ≡ ys)
rising-same xs ys up also = (rising_same xs ys up also, (λ same. subst (λ zs. have_same_elements xs zs ≡ true) same (same-itself xs)))
