-- Lemmas on lists without duplicates, and on tests.
use Rattle.std.proofs.Common.{◌≡◌, ℕ, Bool, true, false, List, [], ◌∷◌, ◌++◌, length, refl, sym, ap, ◌∙◌, subst, inl, inr, arith}
use Rattle.std.specs.Prelude.{◌⊎◌, ◌==◌, ◌||◌, Contains, IsPermutation}
use Rattle.std.specs.List.{AllByRecursion, IsDistinct}
use Rattle.std.proofs.lemmas.Bool.{false≢true, or_left, or_right, eqb-true, eqb-false, eq-eqb, false_from_ne_true, cases_eq, ne_eqb}
use Rattle.std.proofs.lemmas.List.Elements.{Contains-append_left, Contains-append_right}
use Rattle.std.proofs.lemmas.Map.Keys.{IsDistinct-IsPermutation}
use Rattle.ra_labels.specs.TheoremTerms.{HasNoDuplicates}
use Rattle.ra_labels.specs.Insertion.{or_label}
use Rattle.ra_labels.proofs.Members.{head_or_behind, at_head, behind_head, none_there}
use Rattle.ra_labels.proofs.Comparisons.{eqb-comm}

-- the concatenation of two disjoint lists without duplicates
pub none_twice-append : {A : Type 0} (xs ys : List A) → HasNoDuplicates xs → HasNoDuplicates ys
    → ((x : A) → Contains xs x → Contains ys x → ⊥) → HasNoDuplicates (xs ++ ys)
none_twice-append [] ys one two apart = two
none_twice-append (x ∷ xs) ys one two apart = (
  (λ there. none_of x xs ys one.0 (apart x (at_head x xs x refl)) there),
  none_twice-append xs ys one.1 two (λ y y_there other. apart y (behind_head x xs y y_there) other),
)
  where
    none_of : {A : Type 0} (x : A) (xs ys : List A) → ¬ Contains xs x → ¬ Contains ys x → ¬ Contains (xs ++ ys) x
    none_of x [] ys first second there = second there
    none_of x (y ∷ xs) ys first second there = elim (head_or_behind y (xs ++ ys) x there) [
      | inl here ↦ first (at_head y xs x here)
      | inr further ↦ none_of x xs ys (λ t. first (behind_head y xs x t)) second further
    ]

pub none_twice-one : {A : Type 0} (x : A) → HasNoDuplicates (x ∷ [])
none_twice-one x = (none_there x, tt)

-- a list without duplicates, without its last element
pub none_twice-last : {A : Type 0} (xs : List A) (x : A) → HasNoDuplicates (xs ++ x ∷ []) → HasNoDuplicates xs × (¬ Contains xs x)
none_twice-last [] x once = (tt, none_there x)
none_twice-last (y ∷ ys) x once =
    let rest = none_twice-last ys x once.1 in (
      ((λ there. once.0 (Contains-append_left ys (x ∷ []) y there)), rest.0),
      (λ there. elim (head_or_behind y ys x there) [
        | inl here ↦
            once.0 (subst (Contains (ys ++ x ∷ [])) (sym here)
            (Contains-append_right ys (x ∷ []) x (at_head x [] x refl)))
        | inr further ↦ rest.1 further
      ]),
    )

-- and a permutation of it
apart_all : (x : ℕ) (xs : List ℕ) → ¬ Contains xs x → AllByRecursion (λ z. (x == z) ≡ false) xs
apart_all x [] none = tt
apart_all x (y ∷ ys) none =
    (ne_eqb x y (λ is. none (at_head y ys x (sym is))), apart_all x ys (λ there. none (behind_head y ys x there)))

none_among : (x : ℕ) (xs : List ℕ) → AllByRecursion (λ z. (x == z) ≡ false) xs → ¬ Contains xs x
none_among x [] all there = none_there x there
none_among x (y ∷ ys) all there = elim (head_or_behind y ys x there) [
  | inl here ↦ eqb-false x y all.0 (sym here)
  | inr further ↦ none_among x ys all.1 further
]

distinct_from : (xs : List ℕ) → HasNoDuplicates xs → IsDistinct (λ x y. x == y) xs
unfolding IsDistinct
distinct_from [] once = tt
distinct_from (x ∷ xs) once = (apart_all x xs once.0, distinct_from xs once.1)

from_distinct : (xs : List ℕ) → IsDistinct (λ x y. x == y) xs → HasNoDuplicates xs
unfolding IsDistinct
from_distinct [] once = tt
from_distinct (x ∷ xs) once = (none_among x xs once.0, from_distinct xs once.1)

pub none_twice-permutation : (xs ys : List ℕ) → IsPermutation xs ys → HasNoDuplicates xs → HasNoDuplicates ys
none_twice-permutation xs ys shuffled once =
    from_distinct ys (IsDistinct-IsPermutation (λ x y. x == y) eqb-comm xs ys shuffled (distinct_from xs once))

pub not_both : (b : Bool) → b ≡ false → ¬ (b ≡ true)
not_both b fails passes = false≢true (sym fails ∙ passes)

-- one more label passes
pub it_passes : (passes : ℕ → Bool) (n m : ℕ) → m ≡ n → or_label passes n m ≡ true
it_passes passes n m is = or_right (passes m) (m == n) (eq-eqb m n is)

pub still_passes : (passes : ℕ → Bool) (n m : ℕ) → passes m ≡ true → or_label passes n m ≡ true
still_passes passes n m is = or_left (passes m) (m == n) is

pub others_pass : (passes : ℕ → Bool) (n m : ℕ) → ¬ (m ≡ n) → or_label passes n m ≡ passes m
others_pass passes n m other = ap (λ b. passes m || b) (ne_eqb m n other) ∙ or_false (passes m)
  where
    or_false : (b : Bool) → (b || false) ≡ b
    or_false true = refl
    or_false false = refl

pub passes_or_is : (passes : ℕ → Bool) (n m : ℕ) → or_label passes n m ≡ true → (passes m ≡ true) ⊎ (m ≡ n)
passes_or_is passes n m passes_it = elim (cases_eq m n) [
  | inl is ↦ inr is
  | inr other ↦ inl (sym (others_pass passes n m other) ∙ passes_it)
]

pub not_before : (passes : ℕ → Bool) (n m : ℕ) → or_label passes n m ≡ false → passes m ≡ false
not_before passes n m fails =
    false_from_ne_true (passes m) (λ it. not_both (or_label passes n m) fails (still_passes passes n m it))

pub not_it : (passes : ℕ → Bool) (n m : ℕ) → or_label passes n m ≡ false → ¬ (m ≡ n)
not_it passes n m fails is = not_both (or_label passes n m) fails (it_passes passes n m is)

-- a list of length 0 is empty
pub empty_if : (xs : List ℕ) → (length xs == 0) ≡ true → xs ≡ []
empty_if [] is = refl
empty_if (x ∷ xs) is = absurd (omega (arith, eqb-true (length (x ∷ xs)) 0 is))
