-- How many times a number is in a list.
use Rattle.std.proofs.Common.{◌≡◌, ℕ, ◌+◌, ◌<◌, ◌≤◌, List, [], ◌∷◌, ◌++◌, length, get_or, take, inl, inr, arith}
use Rattle.std.specs.Prelude.{◌==◌, Contains, if◌then◌else◌}
use Rattle.std.proofs.lemmas.Bool.{cases_eq, eq-eqb, ne_eqb, cond-true, cond-false}
use Rattle.std.proofs.lemmas.List.Sums.{sum_by-cons, sum_by-append, sum_by_more}
use Rattle.ra_labels.specs.Edges.{EachOnce, IsBefore}
use Rattle.ra_labels.proofs.Members.{head_or_behind, at_head, behind_head, none_there}
use Rattle.ra_precedence.specs.Placing.{times}

-- whether the number is b, as a number
abbrev pub one_if : ℕ → ℕ → ℕ
one_if b x = if x == b then 1 else 0

pub one_if-is : (b x : ℕ) → x ≡ b → one_if b x ≡ 1
one_if-is b x same = cond-true (x == b) 1 0 (eq-eqb x b same)

pub one_if-not : (b x : ℕ) → ¬ (x ≡ b) → one_if b x ≡ 0
one_if-not b x other = cond-false (x == b) 1 0 (ne_eqb x b other)

pub times_head : (b x : ℕ) (xs : List ℕ) → times b (x ∷ xs) ≡ one_if b x + times b xs
times_head b x xs = sum_by-cons (one_if b) x xs

-- a number is in a list exactly if it is there at least once
pub times-there : (b : ℕ) (xs : List ℕ) → Contains xs b → 0 < times b xs
times-there b [] there = absurd (none_there b there)
times-there b (x ∷ xs) there = elim (head_or_behind x xs b there) [
  | inl here ↦ omega (arith, times_head b x xs, one_if-is b x here)
  | inr further ↦ omega (arith, times_head b x xs, times-there b xs further)
]

pub there-times : (b : ℕ) (xs : List ℕ) → 0 < times b xs → Contains xs b
there-times b [] some = absurd (omega (arith, some))
there-times b (x ∷ xs) some = elim (cases_eq x b) [
  | inl here ↦ at_head x xs b here
  | inr other ↦ behind_head x xs b (there-times b xs (omega (arith, some, times_head b x xs, one_if-not b x other)))
]

pub times_none : (b : ℕ) (xs : List ℕ) → ¬ Contains xs b → times b xs ≡ 0
times_none b xs none = elim (cases_eq (times b xs) 0) [
  | inl is ↦ is
  | inr some ↦ absurd (none (there-times b xs (omega (arith, some))))
]

-- no number is in the list twice exactly if each is there at most once
pub each_once : (xs : List ℕ) → ((b : ℕ) → times b xs ≤ 1) → EachOnce xs
each_once xs most b = most b

pub once_each : (xs : List ℕ) → EachOnce xs → (b : ℕ) → times b xs ≤ 1
once_each xs once b = once b

pub times_append : (b : ℕ) (xs ys : List ℕ) → times b (xs ++ ys) ≡ times b xs + times b ys
times_append b xs ys = sum_by-append (one_if b) xs ys

pub times_more : (b : ℕ) (xs : List ℕ) (i : ℕ) → i < length xs
    → times b (take (i + 1) xs) ≡ times b (take i xs) + one_if b (get_or xs i 0)
times_more b xs i within = sum_by_more (one_if b) xs i 0 within

-- what is behind in an order is in it
pub behind_there : (xs : List ℕ) (a b : ℕ) → IsBefore xs a b → Contains xs b
behind_there [] a b is = absurd is
behind_there (x ∷ xs) a b (inl both) = behind_head x xs b both.1
behind_there (x ∷ xs) a b (inr further) = behind_head x xs b (behind_there xs a b further)
