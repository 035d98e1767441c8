-- Lemmas on membership in a list.
use Rattle.std.proofs.Common.{◌≡◌, zero, suc, Bool, true, List, [], ◌∷◌, ◌++◌, filter, refl, sym, ap, ◌∙◌, subst, inl, inr, arith}
use Rattle.std.specs.Prelude.{◌⊎◌, Contains, map, flat_map}
use Rattle.std.specs.List.{list_any, AllByRecursion}
use Rattle.std.proofs.lemmas.Bool.{false≢true, cases_Bool, cond-true, cond-false, or_cases}
use Rattle.std.proofs.lemmas.List.Elements.{Contains-append_left, Contains-append_right, Contains-append_cases}

-- an element of a list is its head or a member of its tail
pub head_or_behind : {A : Type 0} (x : A) (xs : List A) (y : A) → Contains (x ∷ xs) y → (x ≡ y) ⊎ Contains xs y
head_or_behind x xs y (zero, within, is) = inl is
head_or_behind x xs y (suc k, within, is) = inr (k, omega arith, is)

-- a list splits into the elements before a member, the member, and the elements behind it
pub split_at : {A : Type 0} (xs : List A) (y : A) → Contains xs y → (before after : List A) × (xs ≡ before ++ y ∷ after)
split_at [] y (k, within, is) = absurd (omega arith)
split_at (x ∷ xs) y found = elim (head_or_behind x xs y found) [
  | inl here ↦ ([], xs, ap (λ z. z ∷ xs) here)
  | inr further ↦ let rest = split_at xs y further in (x ∷ rest.0, rest.1, ap (λ zs. x ∷ zs) rest.2)
]

-- membership of the head, and of an element behind it
pub at_head : {A : Type 0} (x : A) (xs : List A) (y : A) → x ≡ y → Contains (x ∷ xs) y
at_head x xs y is = (zero, omega arith, is)

pub behind_head : {A : Type 0} (x : A) (xs : List A) (y : A) → Contains xs y → Contains (x ∷ xs) y
behind_head x xs y (k, within, is) = (suc k, omega arith, is)

-- `filter` keeps exactly the members that pass its test
pub kept-there : {A : Type 0} (p : A → Bool) (xs : List A) (y : A) → Contains xs y → p y ≡ true → Contains (filter p xs) y
kept-there p [] y there passes = absurd (omega (arith, there.1))
kept-there p (x ∷ xs) y there passes = elim (cases_Bool (p x)) [
  | inl keeps ↦ subst (λ kept. Contains kept y) (sym (cond-true (p x) (x ∷ filter p xs) (filter p xs) keeps)) (elim (head_or_behind x xs y there) [
    | inl here ↦ at_head x (filter p xs) y here
    | inr further ↦ behind_head x (filter p xs) y (kept-there p xs y further passes)
  ])
  | inr drops ↦ subst (λ kept. Contains kept y) (sym (cond-false (p x) (x ∷ filter p xs) (filter p xs) drops)) (elim (head_or_behind x xs y there) [
    | inl here ↦ absurd (false≢true (sym drops ∙ ap p here ∙ passes))
    | inr further ↦ kept-there p xs y further passes
  ])
]

pub there-kept : {A : Type 0} (p : A → Bool) (xs : List A) (y : A) → Contains (filter p xs) y → Contains xs y × (p y ≡ true)
there-kept p [] y there = absurd (omega (arith, there.1))
there-kept p (x ∷ xs) y there = elim (cases_Bool (p x)) [
  | inl keeps ↦ elim (head_or_behind x (filter p xs) y (subst (λ kept. Contains kept y) (cond-true (p x) (x ∷ filter p xs) (filter p xs) keeps) there)) [
    | inl here ↦ (at_head x xs y here, sym (ap p here) ∙ keeps)
    | inr further ↦ let rest = there-kept p xs y further in (behind_head x xs y rest.0, rest.1)
  ]
  | inr drops ↦
      let rest = there-kept p xs y (subst (λ kept. Contains kept y) (cond-false (p x) (x ∷ filter p xs) (filter p xs) drops) there) in
      (behind_head x xs y rest.0, rest.1)
]

-- `map` has the images of the members, and no other elements
pub reached : {A B : Type 0} (f : A → B) (xs : List A) (x : A) → Contains xs x → Contains (map f xs) (f x)
reached f [] x there = absurd (omega (arith, there.1))
reached f (y ∷ ys) x there = elim (head_or_behind y ys x there) [
  | inl here ↦ at_head (f y) (map f ys) (f x) (ap f here)
  | inr further ↦ behind_head (f y) (map f ys) (f x) (reached f ys x further)
]

pub from_where : {A B : Type 0} (f : A → B) (xs : List A) (z : B) → Contains (map f xs) z → (x : A) × Contains xs x × (f x ≡ z)
from_where f [] z there = absurd (omega (arith, there.1))
from_where f (y ∷ ys) z there = elim (head_or_behind (f y) (map f ys) z there) [
  | inl here ↦ (y, at_head y ys y refl, here)
  | inr further ↦ let rest = from_where f ys z further in (rest.0, behind_head y ys rest.0 rest.1, rest.2)
]

-- the empty list has no member
pub none_there : {A : Type 0} (y : A) → ¬ Contains [] y
none_there y there = omega (arith, there.1)

pub everyone : {A : Type 0} (P : A → Type 0) (xs : List A) (y : A) → AllByRecursion P xs → Contains xs y → P y
everyone P [] y all there = absurd (omega (arith, there.1))
everyone P (x ∷ xs) y all there = elim (head_or_behind x xs y there) [
  | inl here ↦ subst P here all.0
  | inr further ↦ everyone P xs y all.1 further
]

module _ {A : Type 0} where
  -- a list that passes `list_any` has a member that passes the test
  pub what_passes : (p : A → Bool) (xs : List A) → list_any p xs ≡ true → (x : A) × Contains xs x × (p x ≡ true)
  what_passes p [] some = absurd (false≢true some)
  what_passes p (x ∷ xs) some = elim (or_cases (p x) (list_any p xs) some) [
    | inl here ↦ (x, at_head x xs x refl, here)
    | inr further ↦ let rest = what_passes p xs further in (rest.0, behind_head x xs rest.0 rest.1, rest.2)
  ]

module _ {A B : Type 0} where
  -- the members of a concatenation are those of its pieces
  pub piece_of : (f : B → List A) (bs : List B) (y : A) → Contains (flat_map f bs) y → (b : B) × Contains bs b × Contains (f b) y
  piece_of f [] y there = absurd (omega (arith, there.1))
  piece_of f (b ∷ bs) y there = elim (Contains-append_cases (f b) (flat_map f bs) y there) [
    | inl here ↦ (b, at_head b bs b refl, here)
    | inr further ↦ let rest = piece_of f bs y further in (rest.0, behind_head b bs rest.0 rest.1, rest.2)
  ]

  pub in_piece : (f : B → List A) (bs : List B) (b : B) (y : A) → Contains bs b → Contains (f b) y → Contains (flat_map f bs) y
  in_piece f [] b y found there = absurd (omega (arith, found.1))
  in_piece f (c ∷ bs) b y found there = elim (head_or_behind c bs b found) [
    | inl here ↦ Contains-append_left (f c) (flat_map f bs) y (subst (λ d. Contains (f d) y) (sym here) there)
    | inr further ↦ Contains-append_right (f c) (flat_map f bs) y (in_piece f bs b y further there)
  ]
