-- Lemmas on ranges of numbers, and on rising lists that are filtered or get one more element.
use Rattle.std.proofs.Common.{◌≡◌, ℕ, zero, suc, ◌+◌, ◌<◌, ◌≤◌, Bool, true, List, [], ◌∷◌, filter, length, get_or, refl, sym, subst, inl, inr, arith, add-one}
use Rattle.std.specs.Prelude.{◌↔◌, nat_lt, insert, Contains}
use Rattle.std.specs.List.{list_all, list_any, range_with_len}
use Rattle.std.specs.Ordering.{nat_cmp}
use Rattle.std.proofs.lemmas.Bool.{cases_eq, cases_lt, lt-ltb, and_from, or_left, or_right}
use Rattle.std.proofs.lemmas.List.Edits.{length-insert, get_or-insert_at, get_or-insert_below, get_or-insert_above}
use Rattle.std.proofs.lemmas.List.Kept.{IsStrictlySortedBy-filter}
use Rattle.ra_labels.specs.Lists.{rises}
use Rattle.ra_labels.proofs.InLists.{list_all-from_contains, same-exactly, rising-same, rises-to_sorted, sorted-to_rises}
use Rattle.ra_labels.proofs.Members.{head_or_behind, at_head, behind_head, none_there}
use Rattle.ra_labels.proofs.RisingLists.{rises-index, rises-steps}

-- the members of a range
pub in_range : (a n k : ℕ) → a ≤ k → k < a + n → Contains (range_with_len a n) k
in_range a zero k low high = absurd (omega arith)
in_range a (suc n) k low high = elim (cases_eq a k) [
  | inl here ↦ at_head a (range_with_len (a + 1) n) k here
  | inr further ↦
      behind_head a (range_with_len (a + 1) n) k (in_range (a + 1) n k (omega arith) (omega arith))
]

pub range_within : (a n k : ℕ) → Contains (range_with_len a n) k → (a ≤ k) × (k < a + n)
range_within a zero k there = absurd (none_there k there)
range_within a (suc n) k there = elim (head_or_behind a (range_with_len (a + 1) n) k there) [
  | inl here ↦ (omega arith, omega arith)
  | inr further ↦ let rest = range_within (a + 1) n k further in (omega arith, omega arith)
]

-- a range rises
pub range_rises : (a n : ℕ) → rises (range_with_len a n) ≡ true
range_rises a zero = refl
range_rises a (suc n) =
    let rest = range_with_len (a + 1) n in
    and_from (list_all (λ k. nat_lt a k) rest) (rises rest)
    (list_all-from_contains (λ k. nat_lt a k) rest
    (λ k there. let within = range_within (a + 1) n k there in lt-ltb a k (omega arith)))
    (range_rises (a + 1) n)

-- a filter of a rising list rises
pub filter_rises : (p : ℕ → Bool) (xs : List ℕ) → rises xs ≡ true → rises (filter p xs) ≡ true
filter_rises p xs up =
    sorted-to_rises (filter p xs) (IsStrictlySortedBy-filter nat_cmp p xs (rises-to_sorted xs up))

-- rising lists with the same members are equal
pub same_rising : (xs ys : List ℕ) → rises xs ≡ true → rises ys ≡ true → ((x : ℕ) → Contains xs x ↔ Contains ys x)
    → xs ≡ ys
same_rising xs ys up also same = (rising-same xs ys up also).0 ((same-exactly xs ys).1 same)

-- a list passes `list_any` if a member passes the test
pub any_passes : {A : Type 0} (p : A → Bool) (xs : List A) (y : A) → Contains xs y → p y ≡ true → list_any p xs ≡ true
any_passes p [] y there passes = absurd (none_there y there)
any_passes p (x ∷ xs) y there passes = elim (head_or_behind x xs y there) [
  | inl here ↦ or_left (p x) (list_any p xs) (subst (λ z. p z ≡ true) (sym here) passes)
  | inr further ↦ or_right (p x) (list_any p xs) (any_passes p xs y further passes)
]

module _ (xs : List ℕ) (at x : ℕ) (up : rises xs ≡ true) (within : at ≤ length xs)
    (below : (k : ℕ) → k < at → get_or xs k 0 < x) (above : at < length xs → x < get_or xs at 0) where
  behind : (k : ℕ) → at ≤ k → get_or (insert xs at x) (suc k) 0 ≡ get_or xs k 0
  behind k low = subst (λ j. get_or (insert xs at x) j 0 ≡ get_or xs k 0) (add-one k)
      (get_or-insert_above xs at x 0 k low within)

  front : (k : ℕ) → k < at → get_or (insert xs at x) k 0 ≡ get_or xs k 0
  front k less = get_or-insert_below xs at x 0 k less within

  here : get_or (insert xs at x) at 0 ≡ x
  here = get_or-insert_at xs at x 0 within

  inserted_step : (k : ℕ) → suc k < length (insert xs at x)
      → get_or (insert xs at x) k 0 < get_or (insert xs at x) (suc k) 0
  inserted_step k short =
      let long = length-insert xs at x within in
      elim (cases_lt (suc k) at) [
        | inl less ↦ omega (
          arith,
          front k (omega arith),
          front (suc k) less,
          rises-index xs up k (suc k) (omega arith) (omega arith),
        )
        | inr low ↦ elim (cases_eq (suc k) at) [
          | inl is ↦ omega (
            arith,
            front k (omega arith),
            below k (omega arith),
            subst (λ j. get_or (insert xs at x) j 0 ≡ x) (sym is) here,
          )
          | inr other ↦ elim (cases_eq k at) [
            | inl same ↦ omega (
              arith,
              behind k (omega arith),
              subst (λ j. get_or (insert xs at x) j 0 ≡ x) (sym same) here,
              subst (λ j. x < get_or xs j 0) (sym same) (above (omega arith)),
            )
            | inr more ↦ further k (omega arith) (omega arith)
          ]
        ]
      ]
    where
      further : (k : ℕ) → at < k → k < length xs → get_or (insert xs at x) k 0 < get_or (insert xs at x) (suc k) 0
      further zero more short = absurd (omega arith)
      further (suc k) more short = omega (
        arith,
        behind k (omega arith),
        behind (suc k) (omega arith),
        rises-index xs up k (suc k) (omega arith) short,
      )

  -- a rising list rises with one more element between the smaller and the greater ones
  pub insert_rises : rises (insert xs at x) ≡ true
  insert_rises = rises-steps (insert xs at x) inserted_step
