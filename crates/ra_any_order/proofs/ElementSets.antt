-- Lemmas on sets of elements and on the newest updates of one element, step by step.
use Rattle.std.proofs.Common.{◌≡◌, ℕ, ◌+◌, ◌<◌, Bool, true, false, List, [], ◌∷◌, ◌++◌, length, get_or, take, filter, cond, append_assoc, append-nil, BTreeMap, Some, None, refl, sym, ap, ◌∙◌, subst, inl, inr, arith}
use Rattle.std.specs.Prelude.{◌==◌, ◌||◌, Contains}
use Rattle.std.specs.BTreeSet.{BTreeSet, contains, Updates}
use Rattle.std.specs.Ordering.{nat_cmp}
use Rattle.std.proofs.lemmas.Bool.{cases_eq, ne_eqb, eq-eqb, or_right}
use Rattle.std.proofs.lemmas.Option.{none-some, same_Some}
use Rattle.std.proofs.lemmas.List.{take_more}
use Rattle.std.proofs.lemmas.List.Elements.{filter-append, Contains-append_left, Contains-append_right, Contains-append_cases}
use Rattle.std.proofs.lemmas.List.Folds.{list_any_more}
use Rattle.ra_labels.specs.Lists.{is_among}
use Rattle.ra_labels.proofs.Members.{head_or_behind, at_head, none_there}
use Rattle.ra_list_order.proofs.Pointed.{apart_test}
use Rattle.ra_any_order.specs.Changes.{newest_in}
use Rattle.ra_any_order.specs.Elements.{AreNewestOf}

or_false : (b : Bool) → (b || false) ≡ b
or_false true = refl
or_false false = refl

pub set_more : (old new : BTreeSet ℕ) (xs : List ℕ) (i k : ℕ) → i < length xs → k ≡ get_or xs i 0
    → ((x : ℕ) → contains nat_cmp old x ≡ is_among x (take i xs)) → Updates nat_cmp old new k true → (x : ℕ)
    → contains nat_cmp new x ≡ is_among x (take (i + 1) xs)
set_more old new xs i k within is kept updates x =
    let more = list_any_more (λ y. x == y) xs i 0 within in
    elim (cases_eq k x) [
      | inl same ↦
          subst (λ y. contains nat_cmp new y ≡ true) same updates.1
          ∙ sym (more ∙ or_right (is_among x (take i xs)) (x == get_or xs i 0)
          (eq-eqb x (get_or xs i 0) (sym same ∙ is)))
      | inr other ↦
          updates.2 x (apart_test k x (λ same. other (sym same))) ∙ kept x
          ∙ sym (more ∙ ap (λ b. is_among x (take i xs) || b)
          (ne_eqb x (get_or xs i 0) (λ same. other (is ∙ sym same))) ∙ or_false (is_among x (take i xs)))
    ]

module _ (found : BTreeMap (ℕ × ℕ) ℕ) (x : ℕ) where
  pub newest_at_first : (newest : List ℕ) → newest ≡ [] → AreNewestOf found x 0 newest
  newest_at_first newest none = record {
    each = λ m there. absurd (none_there m (subst (λ ms. Contains ms m) none there));
    all = λ replica m below at. absurd (omega (arith, below));
  }

  pub newest_with : (bound m : ℕ) (newest grown : List ℕ) → newest_in found x bound ≡ Some m
      → grown ≡ newest ++ m ∷ [] → AreNewestOf found x bound newest → AreNewestOf found x (bound + 1) grown
  newest_with bound m newest grown at is are = record {
    each =
        λ k there. elim (Contains-append_cases newest (m ∷ []) k (subst (λ ms. Contains ms k) is there)) [
          | inl older ↦ let (replica, low, there_at) = are.each k older in (replica, omega (arith, low), there_at)
          | inr new ↦ elim (head_or_behind m [] k new) [
            | inl here ↦ (bound, omega arith, at ∙ ap Some here)
            | inr further ↦ absurd (none_there k further)
          ]
        ];
    all =
        λ replica k below there. subst (λ ms. Contains ms k) (sym is) (elim (cases_eq replica bound) [
          | inl same ↦
              let here : m ≡ k = same_Some m k (sym at ∙ subst (λ r. newest_in found x r ≡ Some k) same there) in
              Contains-append_right newest (m ∷ []) k (at_head m [] k here)
          | inr other ↦ Contains-append_left newest (m ∷ []) k
              (are.all replica k (omega (arith, below, other)) there)
        ]);
  }

  pub newest_without : (bound : ℕ) (newest same : List ℕ) → newest_in found x bound ≡ None → same ≡ newest
      → AreNewestOf found x bound newest → AreNewestOf found x (bound + 1) same
  newest_without bound newest same none is are = record {
    each =
        λ k there.
        let (replica, low, there_at) = are.each k (subst (λ ms. Contains ms k) is there) in
        (replica, omega (arith, low), there_at);
    all =
        λ replica k below there. subst (λ ms. Contains ms k) (sym is) (elim (cases_eq replica bound) [
          | inl here ↦ absurd (none-some k (sym none ∙ subst (λ r. newest_in found x r ≡ Some k) here there))
          | inr other ↦ are.all replica k (omega (arith, below, other)) there
        ]);
  }

-- ---- the elements that pass a test, with one more
module _ (test : ℕ → Bool) (xs : List ℕ) (i : ℕ) (within : i < length xs) (start mid grown : List ℕ)
    (so_far : mid ≡ start ++ filter test (take i xs)) where
  abbrev next : ℕ
  next = get_or xs i 0

  all_passing : filter test (take (i + 1) xs) ≡ filter test (take i xs) ++ filter test (next ∷ [])
  all_passing = ap (filter test) (take_more xs i 0 within) ∙ filter-append test (take i xs) (next ∷ [])

  pub passing_more : test next ≡ true → grown ≡ mid ++ next ∷ [] → grown ≡ start ++ filter test (take (i + 1) xs)
  passing_more passes is =
      is ∙ ap (λ ys. ys ++ next ∷ []) so_far ∙ append_assoc start (filter test (take i xs)) (next ∷ [])
      ∙ ap (λ ys. start ++ ys)
      (sym (all_passing ∙ ap (λ b. filter test (take i xs) ++ cond b (next ∷ []) []) passes))

  pub passing_same : test next ≡ false → grown ≡ mid → grown ≡ start ++ filter test (take (i + 1) xs)
  passing_same fails is =
      is ∙ so_far
      ∙ ap (λ ys. start ++ ys)
      (sym (all_passing ∙ ap (λ b. filter test (take i xs) ++ cond b (next ∷ []) []) fails
      ∙ append-nil (filter test (take i xs))))
