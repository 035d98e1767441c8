-- Where an element stands in a list.
use Rattle.std.proofs.Common.{◌≡◌, ℕ, zero, suc, ◌<◌, length, get_or, Bool, true, List, [], ◌∷◌, filter, sym, ap, ◌∙◌, subst, inl, inr, arith}
use Rattle.std.specs.Prelude.{◌⊎◌, Contains}
use Rattle.std.specs.List.{list_any}
use Rattle.std.proofs.lemmas.Option.{slice_get-get_or}
use Rattle.std.proofs.lemmas.Bool.{false≢true, cases_Bool, cond-true, cond-false, or_left, or_right}

pub head_or_behind : {A : Type 0} (x : A) (xs : List A) (y : A) → Contains (x ∷ xs) y → (x ≡ y) ⊎ Contains xs y
head_or_behind x xs y (zero, within, is) = inl is
head_or_behind x xs y (suc k, within, is) = inr (k, omega arith, is)

pub at_head : {A : Type 0} (x : A) (xs : List A) (y : A) → x ≡ y → Contains (x ∷ xs) y
at_head x xs y is = (zero, omega arith, is)

pub behind_head : {A : Type 0} (x : A) (xs : List A) (y : A) → Contains xs y → Contains (x ∷ xs) y
behind_head x xs y (k, within, is) = (suc k, omega arith, is)

pub none_there : {A : Type 0} (y : A) → ¬ Contains [] y
none_there y there = omega (arith, there.1)

pub kept-there : {A : Type 0} (p : A → Bool) (xs : List A) (y : A) → Contains xs y → p y ≡ true → Contains (filter p xs) y
kept-there p [] y there passes = absurd (omega (arith, there.1))
kept-there p (x ∷ xs) y there passes = elim (cases_Bool (p x)) [
  | inl keeps ↦ subst (λ kept. Contains kept y) (sym (cond-true (p x) (x ∷ filter p xs) (filter p xs) keeps)) (elim (head_or_behind x xs y there) [
    | inl here ↦ at_head x (filter p xs) y here
    | inr further ↦ behind_head x (filter p xs) y (kept-there p xs y further passes)
  ])
  | inr drops ↦ subst (λ kept. Contains kept y) (sym (cond-false (p x) (x ∷ filter p xs) (filter p xs) drops)) (elim (head_or_behind x xs y there) [
    | inl here ↦ absurd (false≢true (sym drops ∙ ap p here ∙ passes))
    | inr further ↦ kept-there p xs y further passes
  ])
]

pub there-kept : {A : Type 0} (p : A → Bool) (xs : List A) (y : A) → Contains (filter p xs) y → Contains xs y × (p y ≡ true)
there-kept p [] y there = absurd (omega (arith, there.1))
there-kept p (x ∷ xs) y there = elim (cases_Bool (p x)) [
  | inl keeps ↦ elim (head_or_behind x (filter p xs) y (subst (λ kept. Contains kept y) (cond-true (p x) (x ∷ filter p xs) (filter p xs) keeps) there)) [
    | inl here ↦ (at_head x xs y here, sym (ap p here) ∙ keeps)
    | inr further ↦ let rest = there-kept p xs y further in (behind_head x xs y rest.0, rest.1)
  ]
  | inr drops ↦
      let rest = there-kept p xs y (subst (λ kept. Contains kept y) (cond-false (p x) (x ∷ filter p xs) (filter p xs) drops) there) in
      (behind_head x xs y rest.0, rest.1)
]

-- one that passes makes the test of any true
pub any_there : {A : Type 0} (p : A → Bool) (xs : List A) (y : A) → Contains xs y → p y ≡ true → list_any p xs ≡ true
any_there p [] y there passes = absurd (omega (arith, there.1))
any_there p (x ∷ xs) y there passes = elim (head_or_behind x xs y there) [
  | inl here ↦ or_left (p x) (list_any p xs) (ap p here ∙ passes)
  | inr further ↦ or_right (p x) (list_any p xs) (any_there p xs y further passes)
]

-- within the list, the default does not matter
pub same_read : {A : Type 0} (xs : List A) (k : ℕ) (d e : A) → k < length xs → get_or xs k d ≡ get_or xs k e
same_read xs k d e within =
    let first = slice_get-get_or xs k d within in
    let second = slice_get-get_or xs k e within in
    cc

pub read_at : {A : Type 0} (xs : List A) (k : ℕ) (d x : A) → k < length xs → x ≡ get_or xs k x → x ≡ get_or xs k d
read_at xs k d x within is = is ∙ same_read xs k x d within
