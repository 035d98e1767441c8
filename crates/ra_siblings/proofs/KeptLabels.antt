-- Lemmas on the comparison of two rising lists, and on the labels that are left of one.
use Rattle.std.proofs.Common.{◌≡◌, ℕ, ◌<◌, ◌≤◌, ◌+◌, true, List, ◌∷◌, filter, length, get_or, sym, ◌∙◌, subst, inl, inr, arith}
use Rattle.std.specs.Prelude.{◌↔◌, ◌⊎◌, not, insert, Contains}
use Rattle.std.proofs.lemmas.Bool.{cases_lt, cases_eq, not-true, not_from_false, false_from_ne_true, false≢true}
use Rattle.std.proofs.lemmas.List.{get_or_default}
use Rattle.std.proofs.lemmas.List.Elements.{Contains-get_or}
use Rattle.std.proofs.lemmas.List.Sorted.{Contains-permutation, IsPermutation-insert, IsPermutation-sym}
use Rattle.ra_labels.specs.Lists.{is_among, rises}
use Rattle.ra_labels.proofs.InLists.{among-exactly}
use Rattle.ra_labels.proofs.Members.{head_or_behind, at_head, behind_head, kept-there, there-kept}
use Rattle.ra_labels.proofs.Ranges.{insert_rises}
use Rattle.ra_labels.proofs.RisingLists.{rises-index}

-- holds if the labels of the first list before its index are less than those of the second one from its index on
abbrev pub IsBehindAll : List ℕ → ℕ → List ℕ → ℕ → Type 0
IsBehindAll others next labels at =
    (i k : ℕ) → i < next → at ≤ k → k < length labels → get_or others i 0 < get_or labels k 0

-- a label is in a rising list exactly if it is at the index before which all are less, and at which none is less
pub among_at : (others : List ℕ) (next m : ℕ) → rises others ≡ true
    → ((i : ℕ) → i < next → get_or others i 0 < m) → (next < length others → m ≤ get_or others next 0)
    → (is_among m others ≡ true) ↔ ((next < length others) × (get_or others next 0 ≡ m))
among_at others next m up below at = (
  (λ among.
      let (k, short, is) = (among-exactly m others).0 among in
      let found : get_or others k 0 ≡ m = get_or_default others k 0 m short ∙ is in
      elim (cases_lt k next) [
        | inl less ↦ absurd (omega (arith, below k less))
        | inr low ↦ elim (cases_eq k next) [
          | inl same ↦ (omega arith, subst (λ j. get_or others j 0 ≡ m) same found)
          | inr other ↦
              let more = rises-index others up next k (omega arith) short in
              absurd (omega (arith, at (omega arith)))
        ]
      ]),
  (λ known. (among-exactly m others).1
      (subst (Contains others) known.1 (Contains-get_or others next 0 known.0))),
)

-- the next label is behind the labels before the next index, if it is behind those before this index
pub behind_more : (others labels : List ℕ) (next now at : ℕ) → rises labels ≡ true → at < length labels
    → IsBehindAll others next labels at
    → ((i : ℕ) → next ≤ i → i < now → get_or others i 0 < get_or labels at 0)
    → (i : ℕ) → i < now → get_or others i 0 < get_or labels at 0
behind_more others labels next now at up short behind below i less = elim (cases_lt i next) [
  | inl before ↦ behind i at before (omega arith) short
  | inr low ↦ below i low less
]

-- so are all labels behind it
pub behind_rest : (others labels : List ℕ) (now at : ℕ) → rises labels ≡ true → at < length labels
    → ((i : ℕ) → i < now → get_or others i 0 < get_or labels at 0) → IsBehindAll others now labels (at + 1)
behind_rest others labels now at up short below i k less low high =
    omega (arith, below i less, rises-index labels up at k (omega arith) high)

-- the labels that are left of a list are those that are not in the other one
pub left_exactly : (labels others : List ℕ) (m : ℕ)
    → Contains (filter (λ k. not (is_among k others)) labels) m ↔ (Contains labels m × (¬ Contains others m))
left_exactly labels others m = (
  (λ there.
      let known = there-kept (λ k. not (is_among k others)) labels m there in (
        known.0,
        λ other. false≢true (sym (not-true (is_among m others) known.1) ∙ (among-exactly m others).1 other),
      )),
  (λ known. kept-there (λ k. not (is_among k others)) labels m known.0 (not_from_false (is_among m others)
      (false_from_ne_true (is_among m others) (λ among. known.1 ((among-exactly m others).0 among))))),
)

-- the members of a list with one more element
pub inserted_exactly : (xs : List ℕ) (at x m : ℕ) → Contains (insert xs at x) m ↔ ((x ≡ m) ⊎ Contains xs m)
inserted_exactly xs at x m = (
  (λ there. head_or_behind x xs m (Contains-permutation (insert xs at x) (x ∷ xs) m
      (IsPermutation-sym (x ∷ xs) (insert xs at x) (IsPermutation-insert xs at x)) there)),
  (λ either. Contains-permutation (x ∷ xs) (insert xs at x) m (IsPermutation-insert xs at x) (elim either [
    | inl here ↦ at_head x xs m here
    | inr further ↦ behind_head x xs m further
  ])),
)

-- a rising list rises with one more element at the first index at which it is not greater
pub inserted_rises : (xs : List ℕ) (at x : ℕ) → rises xs ≡ true → ¬ Contains xs x → at ≤ length xs
    → ((k : ℕ) → 0 ≤ k → k < at → get_or xs k 0 < x) → (at < length xs → x ≤ get_or xs at 0)
    → rises (insert xs at x) ≡ true
inserted_rises xs at x up new within below from =
    insert_rises xs at x up within (λ k less. below k (omega arith) less) (λ short. elim (cases_eq x (get_or xs at 0)) [
      | inl is ↦ absurd (new (subst (Contains xs) (sym is) (Contains-get_or xs at 0 short)))
      | inr other ↦ omega (arith, from short)
    ])
