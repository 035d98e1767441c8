-- Lists that have each element once, and those that an order keeps.
use Rattle.std.proofs.Common.{◌≡◌, ◌↔◌, ℕ, Bool, true, false, List, [], ◌∷◌, filter, cond, refl, sym, ap, ◌∙◌, subst, inl, inr, arith}
use Rattle.std.specs.Prelude.{◌==◌, not, Contains}
use Rattle.std.specs.List.{list_any, count_by}
use Rattle.std.proofs.lemmas.Bool.{false≢true, cases_Bool, cond-true, cond-false, and_parts, and_from, eq-eqb, eqb-true, ne_eqb, not-true, not_from_false, false_from_ne_true, or_cases, or_left, or_right}
use Rattle.std.proofs.lemmas.List.Sums.{sum_by-cons}
use Rattle.ra_labels.specs.Lists.{is_among}
use Rattle.ra_labels.proofs.InLists.{among-exactly}
use Rattle.ra_labels.proofs.Members.{head_or_behind, at_head, behind_head, none_there, there-kept, kept-there}
use Rattle.ra_labels.specs.Edges.{EachOnce}
use Rattle.ra_labels.specs.Reads.{in_order}
use Rattle.ra_list_order.proofs.Cycles.{AreNew, new_from_once}
use Rattle.ra_labels.specs.FreeList.{has_each_once}

-- an element that is not in the list is counted 0 times
counted_none : (xs : List ℕ) (x : ℕ) → ¬ Contains xs x → count_by (λ y. y == x) xs ≡ 0
counted_none [] x none = refl
counted_none (y ∷ ys) x none =
    let p : ℕ → ℕ = λ z. cond (z == x) 1 0 in
    let split = sum_by-cons p y ys in
    let zero : p y ≡ 0 = cond-false (y == x) 1 0 (ne_eqb y x (λ same. none (at_head y ys x same))) in
    let rest = counted_none ys x (λ there. none (behind_head y ys x there)) in
    omega (arith, split, zero, rest)

pub once_from_new : (xs : List ℕ) → AreNew xs → EachOnce xs
once_from_new [] new = λ x. omega arith
once_from_new (y ∷ ys) new = λ x.
    let p : ℕ → ℕ = λ z. cond (z == x) 1 0 in
    let split = sum_by-cons p y ys in
    elim (cases_Bool (y == x)) [
      | inl same ↦
          let one : p y ≡ 1 = cond-true (y == x) 1 0 same in
          let rest = counted_none ys x (λ there. new.0 (subst (Contains ys) (sym (eqb-true y x same)) there)) in
          omega (arith, split, one, rest)
      | inr other ↦
          let zero : p y ≡ 0 = cond-false (y == x) 1 0 other in
          let rest = once_from_new ys new.1 x in
          omega (arith, split, zero, rest)
    ]

new_decided : (xs : List ℕ) → has_each_once xs ≡ true → AreNew xs
new_decided [] once = tt
new_decided (x ∷ xs) once =
    let parts = and_parts (not (is_among x xs)) (has_each_once xs) once in (
      (λ there. false≢true (sym (not-true (is_among x xs) parts.0) ∙ (among-exactly x xs).1 there)),
      new_decided xs parts.1,
    )

decided_new : (xs : List ℕ) → AreNew xs → has_each_once xs ≡ true
decided_new [] new = refl
decided_new (x ∷ xs) new =
    and_from (not (is_among x xs)) (has_each_once xs)
    (not_from_false (is_among x xs) (false_from_ne_true (is_among x xs) (λ is. new.0 ((among-exactly x xs).0 is))))
    (decided_new xs new.1)

-- `has_each_once` decides whether each element is in the list once
pub once_exactly : (xs : List ℕ) → (has_each_once xs ≡ true) ↔ EachOnce xs
once_exactly xs = (
  (λ is. once_from_new xs (new_decided xs is)),
  (λ once. decided_new xs (new_from_once xs once)),
)

-- what a test keeps of such a list
new_kept : (p : ℕ → Bool) (xs : List ℕ) → AreNew xs → AreNew (filter p xs)
new_kept p [] new = tt
new_kept p (x ∷ xs) new = elim (cases_Bool (p x)) [
  | inl keeps ↦ subst AreNew (sym (cond-true (p x) (x ∷ filter p xs) (filter p xs) keeps))
      ((λ there. new.0 (there-kept p xs x there).0), new_kept p xs new.1)
  | inr drops ↦ subst AreNew (sym (cond-false (p x) (x ∷ filter p xs) (filter p xs) drops)) (new_kept p xs new.1)
]

pub once_kept : (p : ℕ → Bool) (xs : List ℕ) → EachOnce xs → EachOnce (filter p xs)
once_kept p xs once = once_from_new (filter p xs) (new_kept p xs (new_from_once xs once))

-- the elements that are kept of an order
listed_exactly : (list : List ℕ) (x : ℕ) → (list_any (λ y. y == x) list ≡ true) ↔ Contains list x
listed_exactly [] x = ((λ is. absurd (false≢true is)), (λ there. absurd (none_there x there)))
listed_exactly (y ∷ ys) x = (
  (λ is. elim (or_cases (y == x) (list_any (λ z. z == x) ys) is) [
    | inl same ↦ at_head y ys x (eqb-true y x same)
    | inr rest ↦ behind_head y ys x ((listed_exactly ys x).0 rest)
  ]),
  (λ there. elim (head_or_behind y ys x there) [
    | inl here ↦ or_left (y == x) (list_any (λ z. z == x) ys) (eq-eqb y x here)
    | inr further ↦ or_right (y == x) (list_any (λ z. z == x) ys) ((listed_exactly ys x).1 further)
  ]),
)

pub in_order_exactly : (order list : List ℕ) (x : ℕ)
    → Contains (in_order order list) x ↔ (Contains order x × Contains list x)
in_order_exactly order list x = (
  (λ there.
      let kept = there-kept (λ y. list_any (λ z. z == y) list) order x there in
      (kept.0, (listed_exactly list x).0 kept.1)),
  (λ both. kept-there (λ y. list_any (λ z. z == y) list) order x both.0 ((listed_exactly list x).1 both.1)),
)

filter_same : (p q : ℕ → Bool) (xs : List ℕ) → ((x : ℕ) → p x ≡ q x) → filter p xs ≡ filter q xs
filter_same p q [] same = refl
filter_same p q (x ∷ xs) same =
    ap (λ b. cond b (x ∷ filter p xs) (filter p xs)) (same x)
    ∙ ap (λ ys. cond (q x) (x ∷ ys) ys) (filter_same p q xs same)

pub same_bool : (a b : Bool) → (a ≡ true → b ≡ true) → (b ≡ true → a ≡ true) → a ≡ b
same_bool true b to from = sym (to refl)
same_bool false true to from = from refl
same_bool false false to from = refl

-- two lists of the same elements are in the same order
pub in_order_same : (order xs ys : List ℕ) → ((x : ℕ) → Contains xs x ↔ Contains ys x)
    → in_order order xs ≡ in_order order ys
in_order_same order xs ys same =
    filter_same (λ x. list_any (λ y. y == x) xs) (λ x. list_any (λ y. y == x) ys) order (λ x.
    same_bool (list_any (λ y. y == x) xs) (list_any (λ y. y == x) ys)
    (λ is. (listed_exactly ys x).1 ((same x).0 ((listed_exactly xs x).0 is)))
    (λ is. (listed_exactly xs x).1 ((same x).1 ((listed_exactly ys x).0 is))))
