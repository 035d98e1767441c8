-- An order of numbers, as an order of the elements with these numbers.
use Rattle.std.proofs.Common.{◌≡◌, ℕ, ◌+◌, ◌<◌, ◌≤◌, ◌⊎◌, List, [], ◌∷◌, length, Some, None, refl, sym, ap, ◌∙◌, subst, inl, inr, arith}
use Rattle.std.specs.Prelude.{Contains, count_by, cond, ◌==◌}
use Rattle.std.specs.List.{slice_get, cons_option}
use Rattle.std.proofs.lemmas.Bool.{cases_eq, cond-true, cond-false, eq-eqb, ne_eqb}
use Rattle.std.proofs.lemmas.Option.{slice_get_cases, slice_get-get_or}
use Rattle.std.proofs.lemmas.List.Sums.{sum_by-cons}
use Rattle.ra_labels.specs.declared.edge.Edge.{Edge}
use Rattle.ra_labels.specs.Edges.{EachOnce, IsBefore, Extends}
use Rattle.ra_labels.proofs.Members.{head_or_behind, at_head, behind_head, none_there, from_where}
use Rattle.ra_list_replica.specs.Numbers.{HasOneNumberEach}
use Rattle.ra_list_witness.specs.Named.{element_at, named, all_named, elements_of, AreBetweenNumbers, IsOrderOf}
use Rattle.ra_list_witness.proofs.Views.{element_there}

module _ (elements : List ℕ) where
  -- the listed elements, if a number is that of an element, and if it is not
  one_more : (n : ℕ) (order : List ℕ) (x : ℕ) → slice_get elements n ≡ Some x
      → elements_of elements (n ∷ order) ≡ x ∷ elements_of elements order
  one_more n order x is = ap (λ o. cons_option o (elements_of elements order)) is

  no_more : (n : ℕ) (order : List ℕ) → slice_get elements n ≡ None
      → elements_of elements (n ∷ order) ≡ elements_of elements order
  no_more n order none = ap (λ o. cons_option o (elements_of elements order)) none

  -- the element of a number in the order is listed
  pub there_named : (order : List ℕ) (n x : ℕ) → Contains order n → slice_get elements n ≡ Some x
      → Contains (elements_of elements order) x
  there_named [] n x there is = absurd (none_there n there)
  there_named (m ∷ order) n x there is = elim (head_or_behind m order n there) [
    | inl here ↦ subst (λ xs. Contains xs x) (sym (one_more m order x (ap (slice_get elements) here ∙ is)))
        (at_head x (elements_of elements order) x refl)
    | inr further ↦ elim (slice_get_cases elements m).1 [
      | inl (y, within, found, same) ↦ subst (λ xs. Contains xs x) (sym (one_more m order y found))
          (behind_head y (elements_of elements order) x (there_named order n x further is))
      | inr (past, none) ↦ subst (λ xs. Contains xs x) (sym (no_more m order none)) (there_named order n x further is)
    ]
  ]

  -- what is listed is an element
  pub listed_is : (order : List ℕ) (x : ℕ) → Contains (elements_of elements order) x → Contains elements x
  listed_is [] x there = absurd (none_there x there)
  listed_is (m ∷ order) x there = elim (slice_get_cases elements m).1 [
    | inl (y, within, found, same) ↦
        elim (head_or_behind y (elements_of elements order) x (subst (λ xs. Contains xs x) (one_more m order y found) there)) [
          | inl here ↦ element_there elements m x (found ∙ ap Some here)
          | inr further ↦ listed_is order x further
        ]
    | inr (past, none) ↦ listed_is order x (subst (λ xs. Contains xs x) (no_more m order none) there)
  ]

  before_named : (order : List ℕ) (m n a b : ℕ) → IsBefore order m n → slice_get elements m ≡ Some a
      → slice_get elements n ≡ Some b → IsBefore (elements_of elements order) a b
  before_named [] m n a b before one other = absurd before
  before_named (k ∷ order) m n a b before one other = elim before [
    | inl (here, behind) ↦ subst (λ xs. IsBefore xs a b) (sym (one_more k order a (ap (slice_get elements) here ∙ one)))
        (inl (refl, there_named order n b behind other))
    | inr further ↦ elim (slice_get_cases elements k).1 [
      | inl (y, within, found, same) ↦ subst (λ xs. IsBefore xs a b) (sym (one_more k order y found))
          (inr (before_named order m n a b further one other))
      | inr (past, none) ↦ subst (λ xs. IsBefore xs a b) (sym (no_more k order none))
          (before_named order m n a b further one other)
    ]
  ]

  -- the order of the elements extends the edges between them
  pub extends_named : (order : List ℕ) (edges : List Edge) → AreBetweenNumbers elements edges → Extends order edges
      → Extends (elements_of elements order) (all_named elements edges)
  extends_named order edges between extends = λ edge there.
      let (mine, found, same) = from_where (named elements) edges edge there in
      let (one, other) = between mine found in
      subst (λ (e : Edge). IsBefore (elements_of elements order) e.before e.after) same
      (before_named order mine.before mine.after (element_at elements mine.before) (element_at elements mine.after)
      (extends mine found) (slice_get-get_or elements mine.before 0 one) (slice_get-get_or elements mine.after 0 other))

  -- an element is listed at most as often as its number
  abbrev IsListedAs : List ℕ → ℕ → Type 0
  IsListedAs order x = (count_by (λ y. y == x) (elements_of elements order) ≡ 0)
      ⊎ ((n : ℕ) × (slice_get elements n ≡ Some x)
      × (count_by (λ y. y == x) (elements_of elements order) ≤ count_by (λ m. m == n) order))

  count_here : (x y : ℕ) (xs : List ℕ) → x ≡ y → count_by (λ z. z == y) (x ∷ xs) ≡ 1 + count_by (λ z. z == y) xs
  count_here x y xs same =
      sum_by-cons (λ z. cond (z == y) 1 0) x xs
      ∙ ap (λ n. n + count_by (λ z. z == y) xs) (cond-true (x == y) 1 0 (eq-eqb x y same))

  count_apart : (x y : ℕ) (xs : List ℕ) → ¬ (x ≡ y) → count_by (λ z. z == y) (x ∷ xs) ≡ count_by (λ z. z == y) xs
  count_apart x y xs apart =
      let one : ℕ → ℕ = λ z. cond (z == y) 1 0 in
      let split = sum_by-cons one x xs in
      let none : one x ≡ 0 = cond-false (x == y) 1 0 (ne_eqb x y apart) in
      omega (arith, split, none)

  count_more : (x y : ℕ) (xs : List ℕ) → count_by (λ z. z == y) xs ≤ count_by (λ z. z == y) (x ∷ xs)
  count_more x y xs = elim (cases_eq x y) [
    | inl same ↦ omega (arith, count_here x y xs same)
    | inr apart ↦ omega (arith, count_apart x y xs apart)
  ]

  listed_as_before : (k : ℕ) (order : List ℕ) (x : ℕ) → IsListedAs order x
      → count_by (λ y. y == x) (elements_of elements (k ∷ order)) ≡ count_by (λ y. y == x) (elements_of elements order)
      → IsListedAs (k ∷ order) x
  listed_as_before k order x listed same = elim listed [
    | inl none ↦ inl (same ∙ none)
    | inr (n, is, few) ↦ inr (n, is, omega (arith, few, same, count_more k n order))
  ]

  listed_here : HasOneNumberEach elements → (k : ℕ) (order : List ℕ) (x : ℕ) → IsListedAs order x
      → slice_get elements k ≡ Some x
      → count_by (λ y. y == x) (elements_of elements (k ∷ order))
      ≡ 1 + count_by (λ y. y == x) (elements_of elements order) → IsListedAs (k ∷ order) x
  listed_here once k order x listed found more = elim listed [
    | inl none ↦ inr (k, found, omega (arith, none, more, count_here k k order refl))
    | inr (n, is, few) ↦ inr (n, is, omega (arith, few, more, count_here k n order (once x k n found is)))
  ]

  listed_as : HasOneNumberEach elements → (order : List ℕ) (x : ℕ) → IsListedAs order x
  listed_as once [] x = inl refl
  listed_as once (k ∷ order) x = elim (slice_get_cases elements k).1 [
    | inl (y, within, found, value) ↦ elim (cases_eq y x) [
      | inl same ↦ listed_here once k order x (listed_as once order x) (found ∙ ap Some same)
          (ap (count_by (λ z. z == x)) (one_more k order y found) ∙ count_here y x (elements_of elements order) same)
      | inr apart ↦ listed_as_before k order x (listed_as once order x)
          (ap (count_by (λ z. z == x)) (one_more k order y found) ∙ count_apart y x (elements_of elements order) apart)
    ]
    | inr (past, none) ↦ listed_as_before k order x (listed_as once order x)
        (ap (count_by (λ z. z == x)) (no_more k order none))
  ]

  pub once_named : HasOneNumberEach elements → (order : List ℕ) → EachOnce order → EachOnce (elements_of elements order)
  once_named once order each = λ x. elim (listed_as once order x) [
    | inl none ↦ omega (arith, none)
    | inr (n, is, few) ↦ omega (arith, few, each n)
  ]

  -- each element is listed
  pub all_listed : (order : List ℕ) → ((n : ℕ) → n < length elements → Contains order n) → (x : ℕ) → Contains elements x
      → Contains (elements_of elements order) x
  all_listed order ordered x there =
      let (n, within, is) = there in
      there_named order n x (ordered n within)
      (slice_get-get_or elements n x within ∙ ap Some is)

  -- the order of the elements has exactly them, each once
  pub order_named : HasOneNumberEach elements → (order : List ℕ) → EachOnce order
      → ((n : ℕ) → n < length elements → Contains order n) → IsOrderOf (elements_of elements order) elements
  order_named one order once ordered =
      (once_named one order once, (λ x. ((λ there. listed_is order x there), (λ there. all_listed order ordered x there))))
