-- Lemmas on values that are sorted, each kept once.
use Rattle.std.proofs.Common.{◌≡◌, ℕ, suc, ◌+◌, ◌<◌, Bool, true, List, eqb, length, get_or, sym, ap, ◌∙◌, subst, arith, add-one}
use Rattle.std.specs.Prelude.{◌↔◌, ◌&&◌, nat_eq, Contains, IsPermutation}
use Rattle.std.specs.List.{dedup}
use Rattle.std.specs.List.Sorted.{IsSorted}
use Rattle.std.specs.Ordering.{nat_cmp}
use Rattle.std.specs.Cmp.Lexicographic.{pointwise, pointwise_decides}
use Rattle.std.specs.Cmp.{unsigned_Decides}
use Rattle.std.proofs.lemmas.Bool.{and_parts, and_from}
use Rattle.std.proofs.lemmas.List.Kept.{Contains-dedup_nat, Contains-from_dedup}
use Rattle.std.proofs.lemmas.List.Sorted.{Contains-permutation, IsPermutation-sym}
use Rattle.std.proofs.lemmas.Map.Keys.{IsStrictlyIncreasing-dedup}
use Rattle.ra_labels.specs.Lists.{have_same_elements, rises}
use Rattle.ra_labels.proofs.InLists.{bool_same, same-exactly}
use Rattle.ra_labels.proofs.Ranges.{same_rising}
use Rattle.ra_labels.proofs.RisingLists.{rises-steps}

-- sorted values of which each is kept once rise
pub once_rises : (xs : List ℕ) → IsSorted nat_cmp xs → rises (dedup eqb xs) ≡ true
once_rises xs sorted = rises-steps (dedup eqb xs) (λ k short.
    let next = IsStrictlyIncreasing-dedup xs sorted k (omega arith) in
    subst (λ j. get_or (dedup eqb xs) k 0 < get_or (dedup eqb xs) j 0) (add-one k) next)

-- and are the same values
pub once_same : (xs ys : List ℕ) → IsPermutation xs ys → have_same_elements (dedup eqb ys) xs ≡ true
once_same xs ys same = (same-exactly (dedup eqb ys) xs).1 (λ x. (
  (λ there. Contains-permutation ys xs x (IsPermutation-sym xs ys same) (Contains-from_dedup eqb ys x there)),
  (λ there. Contains-dedup_nat ys x (Contains-permutation xs ys x same there)),
))

-- a list rises and has the same values exactly if it is the list of each of them once, in order
pub same_as_once : (list once xs : List ℕ) → rises once ≡ true → have_same_elements once xs ≡ true
    → pointwise nat_eq once list ≡ (rises list && have_same_elements list xs)
same_as_once list once xs also same =
    let decides = pointwise_decides unsigned_Decides once list in
    let once_in = (same-exactly once xs).0 same in
    bool_same (pointwise nat_eq once list) (rises list && have_same_elements list xs)
    (λ equal.
    let is = decides.0 equal in
    and_from (rises list) (have_same_elements list xs) (subst (λ ys. rises ys ≡ true) is also)
    (subst (λ ys. have_same_elements ys xs ≡ true) is same))
    (λ right.
    let parts = and_parts (rises list) (have_same_elements list xs) right in
    let list_in = (same-exactly list xs).0 parts.1 in
    decides.1 (same_rising once list also parts.0 (λ x. (
      (λ there. (list_in x).1 ((once_in x).0 there)),
      (λ there. (once_in x).1 ((list_in x).0 there)),
    ))))
