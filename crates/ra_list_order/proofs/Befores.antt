-- What stands before what in a list made of two.
use Rattle.std.proofs.Common.{◌≡◌, ℕ, zero, suc, ◌<◌, length, get_or, List, [], ◌∷◌, ◌++◌, subst, inl, inr, arith}
use Rattle.std.specs.Prelude.{Contains}
use Rattle.std.proofs.lemmas.List.Elements.{Contains-get_or, Contains-append_left, Contains-append_right, Contains-append_cases}
use Rattle.ra_labels.specs.Edges.{IsBefore}
use Rattle.ra_list_order.proofs.Members.{head_or_behind, at_head, behind_head, none_there}

pub first_there : (xs : List ℕ) (a b : ℕ) → IsBefore xs a b → Contains xs a
first_there [] a b before = absurd before
first_there (x ∷ xs) a b before = elim before [
  | inl here ↦ at_head x xs a here.0
  | inr further ↦ behind_head x xs a (first_there xs a b further)
]

pub second_there : (xs : List ℕ) (a b : ℕ) → IsBefore xs a b → Contains xs b
second_there [] a b before = absurd before
second_there (x ∷ xs) a b before = elim before [
  | inl here ↦ behind_head x xs b here.1
  | inr further ↦ behind_head x xs b (second_there xs a b further)
]

pub before_left : (xs ys : List ℕ) (a b : ℕ) → IsBefore xs a b → IsBefore (xs ++ ys) a b
before_left [] ys a b before = absurd before
before_left (x ∷ xs) ys a b before = elim before [
  | inl here ↦ inl (here.0, Contains-append_left xs ys b here.1)
  | inr further ↦ inr (before_left xs ys a b further)
]

pub before_right : (xs ys : List ℕ) (a b : ℕ) → IsBefore ys a b → IsBefore (xs ++ ys) a b
before_right [] ys a b before = before
before_right (x ∷ xs) ys a b before = inr (before_right xs ys a b before)

pub before_across : (xs ys : List ℕ) (a b : ℕ) → Contains xs a → Contains ys b → IsBefore (xs ++ ys) a b
before_across [] ys a b left right = absurd (none_there a left)
before_across (x ∷ xs) ys a b left right = elim (head_or_behind x xs a left) [
  | inl here ↦ inl (here, Contains-append_right xs ys b right)
  | inr further ↦ inr (before_across xs ys a b further right)
]

-- both on the left, both on the right, or across
pub data IsSpread (xs ys : List ℕ) (a b : ℕ) : Type 0 where
  Left : IsBefore xs a b → IsSpread xs ys a b
  Right : IsBefore ys a b → IsSpread xs ys a b
  Across : Contains xs a → Contains ys b → IsSpread xs ys a b

pub before_cases : (xs ys : List ℕ) (a b : ℕ) → IsBefore (xs ++ ys) a b → IsSpread xs ys a b
before_cases [] ys a b before = Right before
before_cases (x ∷ xs) ys a b before = elim before [
  | inl here ↦ elim (Contains-append_cases xs ys b here.1) [
    | inl near ↦ Left (inl (here.0, near))
    | inr far ↦ Across (at_head x xs a here.0) far
  ]
  | inr further ↦ elim (before_cases xs ys a b further) [
    | Left both ↦ Left (inr both)
    | Right both ↦ Right both
    | Across near far ↦ Across (behind_head x xs a near) far
  ]
]

-- more between two lists changes nothing
pub before_wider : (xs ys zs : List ℕ) (a b : ℕ) → IsBefore (xs ++ zs) a b → IsBefore ((xs ++ ys) ++ zs) a b
before_wider xs ys zs a b before = elim (before_cases xs zs a b before) [
  | Left both ↦ before_left (xs ++ ys) zs a b (before_left xs ys a b both)
  | Right both ↦ before_right (xs ++ ys) zs a b both
  | Across near far ↦ before_across (xs ++ ys) zs a b (Contains-append_left xs ys a near) far
]

pub before_by_places : (xs : List ℕ) (i j : ℕ) (a b : ℕ) → i < j → j < length xs → get_or xs i 0 ≡ a → get_or xs j 0 ≡ b
    → IsBefore xs a b
before_by_places [] i j a b less within left right = absurd (omega arith)
before_by_places (x ∷ xs) i zero a b less within left right = absurd (omega arith)
before_by_places (x ∷ xs) zero (suc j) a b less within left right =
    inl (left, subst (λ y. Contains xs y) right (Contains-get_or xs j 0 (omega arith)))
before_by_places (x ∷ xs) (suc i) (suc j) a b less within left right =
    inr (before_by_places xs i j a b (omega arith) (omega arith) left right)
