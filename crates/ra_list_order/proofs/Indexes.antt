-- The index of each element of a list, and the filter that it gives.
use Rattle.std.proofs.Common.{◌≡◌, ℕ, ◌+◌, ◌<◌, Bool, true, false, List, [], ◌∷◌, ◌++◌, length, get_or, take, drop, filter, Option, Some, None, is_some, refl, sym, ap, ◌∙◌, subst, inl, inr, arith, append_assoc}
use Rattle.std.specs.Prelude.{not, Contains}
use Rattle.std.proofs.lemmas.Bool.{false≢true, cases_eq, cond-true, cond-false}
use Rattle.std.proofs.lemmas.List.{append-nil, length-take-le, get_or-take, take_more}
use Rattle.std.proofs.lemmas.List.Elements.{Contains-get_or, Contains-append_left, Contains-push_cases, filter_more}
use Rattle.std.proofs.lemmas.List.Sorted.{IsPermutation-sym, IsPermutation-to_front}
use Rattle.ra_labels.specs.Edges.{EachOnce, IsBefore}
use Rattle.ra_list_order.specs.Gathering.{others, gathered, IsIndex}
use Rattle.ra_list_order.proofs.Adds.{once_moved}
use Rattle.ra_list_order.proofs.Befores.{before_left, before_right, before_across, before_by_places}
use Rattle.ra_list_order.proofs.Pointed.{IsPointed}
use Rattle.ra_list_order.proofs.Members.{none_there}
use Rattle.ra_list_order.proofs.Others.{is_other, among_there, none_among, kept_other, filters_same}
use Rattle.ra_list_order.proofs.Puts.{once_put}

once_push : (xs : List ℕ) (x : ℕ) → ¬ Contains xs x → EachOnce xs → EachOnce (xs ++ x ∷ [])
once_push xs x none once =
    once_moved (x ∷ xs) (xs ++ x ∷ []) (IsPermutation-sym (xs ++ x ∷ []) (x ∷ xs) (IsPermutation-to_front xs x))
    (once_put xs 0 x none once)

some_none : (a : ℕ) → Some a ≡ None → ⊥
some_none a same = cc

some_same : (a b : ℕ) → Some a ≡ Some b → a ≡ b
some_same a b same = cc

pub none_of : (o : Option ℕ) → is_some o ≡ false → o ≡ None
none_of None is = refl
none_of (Some a) is = absurd (false≢true (sym is))

pub index_none : (index : ℕ → Option ℕ) → ((x : ℕ) → index x ≡ None) → IsIndex index []
index_none index none = record {
  found = λ x i is. absurd (some_none i (sym is ∙ none x));
  missing = λ x is. none_there x;
}

-- one more element passes a filter, or does not
pub kept_more : (test : ℕ → Bool) (xs start now new : List ℕ) (i : ℕ) → i < length xs
    → now ≡ start ++ filter test (take i xs) → test (get_or xs i 0) ≡ true → new ≡ now ++ get_or xs i 0 ∷ []
    → new ≡ start ++ filter test (take (i + 1) xs)
kept_more test xs start now new i within is passes made =
    let x = get_or xs i 0 in
    made ∙ ap (λ ys. ys ++ x ∷ []) is ∙ append_assoc start (filter test (take i xs)) (x ∷ [])
    ∙ ap (λ ys. start ++ ys) (sym (filter_more test xs i 0 within
    ∙ ap (λ ys. filter test (take i xs) ++ ys) (cond-true (test x) (x ∷ []) [] passes)))

pub dropped_more : (test : ℕ → Bool) (xs start now : List ℕ) (i : ℕ) → i < length xs
    → now ≡ start ++ filter test (take i xs) → test (get_or xs i 0) ≡ false → now ≡ start ++ filter test (take (i + 1) xs)
dropped_more test xs start now i within is fails =
    let x = get_or xs i 0 in
    is ∙ ap (λ ys. start ++ ys) (sym (filter_more test xs i 0 within
    ∙ ap (λ ys. filter test (take i xs) ++ ys) (cond-false (test x) (x ∷ []) [] fails)
    ∙ append-nil (filter test (take i xs))))

module _ (elements : List ℕ) (i : ℕ) (old new : ℕ → Option ℕ) (within : i < length elements)
    (is : IsIndex old (take i elements)) (fresh : old (get_or elements i 0) ≡ None)
    (set : IsPointed old new (get_or elements i 0) i) where
  abbrev x : ℕ
  x = get_or elements i 0

  more : take (i + 1) elements ≡ take i elements ++ x ∷ []
  more = take_more elements i 0 within

  pub index_more : IsIndex new (take (i + 1) elements)
  index_more =
      let short = length-take-le i elements (omega (arith, within)) in
      let long = length-take-le (i + 1) elements (omega (arith, within)) in
      record {
        found = λ y j gives. elim (cases_eq y x) [
          | inl same ↦
              let j_is : j ≡ i = some_same j i (sym gives ∙ ap new same ∙ set.here) in (
                omega (arith, j_is, long),
                ap (λ n. get_or (take (i + 1) elements) n 0) j_is ∙ get_or-take (i + 1) elements i 0 (omega arith)
                    ∙ sym same,
              )
          | inr other ↦
              let old_one = is.found y j (sym (set.apart y other) ∙ gives) in
              let low = old_one.0 in (
                omega (arith, low, short, long),
                get_or-take (i + 1) elements j 0 (omega (arith, low, short))
                    ∙ sym (get_or-take i elements j 0 (omega (arith, low, short))) ∙ old_one.1,
              )
        ];
        missing = λ y none there. elim (Contains-push_cases (take i elements) x y (subst (λ xs. Contains xs y) more there)) [
          | inl earlier ↦ elim (cases_eq y x) [
            | inl same ↦ some_none i (sym set.here ∙ ap new (sym same) ∙ none)
            | inr other ↦ is.missing y (sym (set.apart y other) ∙ none) earlier
          ]
          | inr last ↦ some_none i (sym set.here ∙ ap new last ∙ none)
        ];
      }

  pub once_more : EachOnce (take i elements) → EachOnce (take (i + 1) elements)
  once_more once =
      subst EachOnce (sym more) (once_push (take i elements) x (is.missing x fresh) once)

module _ (index : ℕ → Option ℕ) (moved : List ℕ) (is : IsIndex index moved) where
  pub at_index : (x i : ℕ) → index x ≡ Some i → Contains moved x
  at_index x i gives =
      let found = is.found x i gives in
      subst (λ y. Contains moved y) found.1 (Contains-get_or moved i 0 found.0)

  some_among : (x : ℕ) (o : Option ℕ) → index x ≡ o → not (is_some o) ≡ is_other moved x
  some_among x None gives = sym (ap not (none_among moved x (is.missing x gives)))
  some_among x (Some i) gives = sym (ap not (among_there moved x (at_index x i gives)))

  -- the filter that the index gives
  pub others_by_index : (xs : List ℕ) → filter (λ x. not (is_some (index x))) xs ≡ others moved xs
  others_by_index xs =
      filters_same (λ x. not (is_some (index x))) (is_other moved) (λ x. some_among x (index x) refl) xs

  pub gathered_by_index : (xs all first second : List ℕ) (position : ℕ)
      → first ≡ filter (λ x. not (is_some (index x))) (take position xs)
      → second ≡ first ++ moved
      → all ≡ second ++ filter (λ x. not (is_some (index x))) (drop position xs)
      → all ≡ gathered (take position xs) moved (drop position xs)
  gathered_by_index xs all first second position first_is second_is all_is =
      all_is
      ∙ ap (λ ys. second ++ ys) (others_by_index (drop position xs))
      ∙ ap (λ ys. ys ++ others moved (drop position xs))
      (second_is ∙ ap (λ ys. ys ++ moved) (first_is ∙ others_by_index (take position xs)))
      ∙ append_assoc (others moved (take position xs)) moved (others moved (drop position xs))

  module _ (left right : List ℕ) (a b : ℕ) where
    abbrev now : List ℕ
    now = gathered left moved right

    pub both_moved : (i j : ℕ) → index a ≡ Some i → index b ≡ Some j → i < j → IsBefore now a b
    both_moved i j first second less =
        let one = is.found a i first in
        let two = is.found b j second in
        before_right (others moved left) (moved ++ others moved right) a b
        (before_left moved (others moved right) a b (before_by_places moved i j a b less two.0 one.1 two.1))

    pub first_moved : (i : ℕ) → index a ≡ Some i → index b ≡ None → Contains right b → IsBefore now a b
    first_moved i first second there =
        before_right (others moved left) (moved ++ others moved right) a b
        (before_across moved (others moved right) a b (at_index a i first)
        (kept_other moved right b there (is.missing b second)))

    pub second_moved : (j : ℕ) → index a ≡ None → index b ≡ Some j → Contains left a → IsBefore now a b
    second_moved j first second there =
        before_across (others moved left) (moved ++ others moved right) a b
        (kept_other moved left a there (is.missing a first))
        (Contains-append_left moved (others moved right) b (at_index b j second))
