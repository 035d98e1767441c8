-- Lemmas on a list of elements that is compared with the kept ones from its end on.
use Rattle.std.proofs.Common.{◌≡◌, ℕ, zero, suc, ◌+◌, ◌-◌, ◌<◌, ◌≤◌, Bool, true, List, [], ◌∷◌, length, drop, get_or, filter, refl, sym, ap, ◌∙◌, subst, inl, inr, arith}
use Rattle.std.proofs.lemmas.Bool.{false≢true, cases_Bool, cond-true, cond-false}
use Rattle.std.proofs.lemmas.List.{drop_more}

-- from this index on at least as many elements are kept as the list has, and exactly these if no more are
pub record IsTail (keep : ℕ → Bool) (xs done : List ℕ) (i : ℕ) : Type 0 where
  pub few : length done ≤ length (filter keep (drop i xs))
  pub full : length done ≡ length (filter keep (drop i xs)) → done ≡ filter keep (drop i xs)

no_more : (xs : List ℕ) → 0 ≡ length xs → [] ≡ xs
no_more [] none = refl
no_more (x ∷ xs) none = absurd (omega (arith, none))

pub tail_none : (keep : ℕ → Bool) (xs : List ℕ) (i : ℕ) → IsTail keep xs [] i
tail_none keep xs i = record {
  few = omega arith;
  full = λ none. no_more (filter keep (drop i xs)) none;
}

module _ (keep : ℕ → Bool) (xs : List ℕ) where
  -- what is kept from an index on
  kept_here : (j : ℕ) → j < length xs → keep (get_or xs j 0) ≡ true
      → filter keep (drop j xs) ≡ get_or xs j 0 ∷ filter keep (drop (j + 1) xs)
  kept_here j there is =
      ap (filter keep) (drop_more xs j 0 there)
      ∙ cond-true (keep (get_or xs j 0)) (get_or xs j 0 ∷ filter keep (drop (j + 1) xs))
      (filter keep (drop (j + 1) xs)) is

  not_here : (j : ℕ) → j < length xs → ¬ (keep (get_or xs j 0) ≡ true)
      → filter keep (drop j xs) ≡ filter keep (drop (j + 1) xs)
  not_here j there not = elim (cases_Bool (keep (get_or xs j 0))) [
    | inl is ↦ absurd (not is)
    | inr fails ↦
        ap (filter keep) (drop_more xs j 0 there)
        ∙ cond-false (keep (get_or xs j 0)) (get_or xs j 0 ∷ filter keep (drop (j + 1) xs))
        (filter keep (drop (j + 1) xs)) fails
  ]

  one_lower : (done : List ℕ) (j : ℕ) → j < length xs → IsTail keep xs done (j + 1) → IsTail keep xs done j
  one_lower done j there tail = elim (cases_Bool (keep (get_or xs j 0))) [
    | inl is ↦
        let more : length (filter keep (drop j xs)) ≡ suc (length (filter keep (drop (j + 1) xs))) =
        ap (λ (ys : List ℕ). length ys) (kept_here j there is) in
        record {
          few = omega (arith, more, tail.few);
          full = λ same. absurd (omega (arith, same, more, tail.few));
        }
    | inr fails ↦
        let same = sym (not_here j there (λ is. false≢true (sym fails ∙ is))) in
        record {
          few = subst (λ (ys : List ℕ). length done ≤ length ys) same tail.few;
          full = subst (λ (ys : List ℕ). length done ≡ length ys → done ≡ ys) same tail.full;
        }
  ]

  lower : (done : List ℕ) (d j : ℕ) → d + j ≤ length xs → IsTail keep xs done (d + j) → IsTail keep xs done j
  lower done zero j there tail = let same : 0 + j ≡ j = omega arith in subst (IsTail keep xs done) same tail
  lower done (suc d) j there tail =
      let next : suc d + j ≡ d + (j + 1) = omega arith in
      one_lower done j (omega (arith, there))
      (lower done d (j + 1) (omega (arith, there)) (subst (IsTail keep xs done) next tail))

  -- a kept element before those that were compared is one more of them
  pub tail_more : (done : List ℕ) (x i j : ℕ) → j < i → i ≤ length xs → get_or xs j 0 ≡ x → keep x ≡ true
      → IsTail keep xs done i → IsTail keep xs (x ∷ done) j
  tail_more done x i j before there is keeps tail =
      let d = i - (j + 1) in
      let same : i ≡ d + (j + 1) = omega (arith, before) in
      let next = lower done d (j + 1) (omega (arith, there, same)) (subst (IsTail keep xs done) same tail) in
      let here : filter keep (drop j xs) ≡ x ∷ filter keep (drop (j + 1) xs) =
      kept_here j (omega (arith, before, there)) (ap keep is ∙ keeps)
      ∙ ap (λ y. y ∷ filter keep (drop (j + 1) xs)) is in
      let more : length (filter keep (drop j xs)) ≡ suc (length (filter keep (drop (j + 1) xs))) =
      ap (λ (ys : List ℕ). length ys) here in
      record {
        few = omega (arith, more, next.few);
        full = λ all. ap (λ ys. x ∷ ys) (next.full (omega (arith, all, more))) ∙ sym here;
      }

  -- the compared elements are all kept ones if they are as many
  pub tail_whole : (done : List ℕ) (i : ℕ) → i ≤ length xs → IsTail keep xs done i
      → length done ≡ length (filter keep xs) → done ≡ filter keep xs
  tail_whole done i there tail all =
      let same : i ≡ i + 0 = omega arith in
      (lower done i 0 (omega (arith, there)) (subst (IsTail keep xs done) same tail)).full all

-- an element of the kept ones is in the list
abbrev pub IsKeptAt : (ℕ → Bool) → List ℕ → List ℕ → ℕ → Type 0
IsKeptAt keep xs ys a = (j : ℕ) × (j < length xs) × (get_or xs j 0 ≡ get_or ys a 0) × (keep (get_or ys a 0) ≡ true)

kept_first : (keep : ℕ → Bool) (x : ℕ) (xs ys : List ℕ) → keep x ≡ true
    → ((a : ℕ) → a < length ys → IsKeptAt keep xs ys a) → (a : ℕ) → a < length (x ∷ ys)
    → IsKeptAt keep (x ∷ xs) (x ∷ ys) a
kept_first keep x xs ys is rest zero there = (0, omega arith, refl, is)
kept_first keep x xs ys is rest (suc a) there =
    let (j, within, same, keeps) = rest a (omega (arith, there)) in (suc j, omega (arith, within), same, keeps)

kept_behind : (keep : ℕ → Bool) (x : ℕ) (xs ys : List ℕ) (a : ℕ) → IsKeptAt keep xs ys a
    → IsKeptAt keep (x ∷ xs) ys a
kept_behind keep x xs ys a (j, within, same, keeps) = (suc j, omega (arith, within), same, keeps)

pub kept_at : (keep : ℕ → Bool) (xs : List ℕ) (a : ℕ) → a < length (filter keep xs)
    → IsKeptAt keep xs (filter keep xs) a
kept_at keep [] a there = absurd (omega (arith, there))
kept_at keep (x ∷ xs) a there = elim (cases_Bool (keep x)) [
  | inl is ↦
      let same = cond-true (keep x) (x ∷ filter keep xs) (filter keep xs) is in
      subst (λ (ys : List ℕ). IsKeptAt keep (x ∷ xs) ys a) (sym same)
      (kept_first keep x xs (filter keep xs) is (kept_at keep xs) a (subst (λ (ys : List ℕ). a < length ys) same there))
  | inr fails ↦
      let same = cond-false (keep x) (x ∷ filter keep xs) (filter keep xs) fails in
      subst (λ (ys : List ℕ). IsKeptAt keep (x ∷ xs) ys a) (sym same)
      (kept_behind keep x xs (filter keep xs) a
      (kept_at keep xs a (subst (λ (ys : List ℕ). a < length ys) same there)))
]

-- two of the kept ones that follow one another are in the list in this order
abbrev pub AreTwoAt : List ℕ → List ℕ → ℕ → Type 0
AreTwoAt xs ys a = (j i : ℕ) × (j < i) × (i < length xs) × (get_or xs j 0 ≡ get_or ys a 0)
    × (get_or xs i 0 ≡ get_or ys (suc a) 0)

two_first : (keep : ℕ → Bool) (x : ℕ) (xs ys : List ℕ) → ((a : ℕ) → a < length ys → IsKeptAt keep xs ys a)
    → ((a : ℕ) → suc a < length ys → AreTwoAt xs ys a) → (a : ℕ) → suc a < length (x ∷ ys)
    → AreTwoAt (x ∷ xs) (x ∷ ys) a
two_first keep x xs ys one rest zero there =
    let (i, within, same, keeps) = one 0 (omega (arith, there)) in
    (0, suc i, omega arith, omega (arith, within), refl, same)
two_first keep x xs ys one rest (suc a) there =
    let (j, i, before, within, is, is_next) = rest a (omega (arith, there)) in
    (suc j, suc i, omega (arith, before), omega (arith, within), is, is_next)

two_behind : (x : ℕ) (xs ys : List ℕ) (a : ℕ) → AreTwoAt xs ys a → AreTwoAt (x ∷ xs) ys a
two_behind x xs ys a (j, i, before, within, is, is_next) =
    (suc j, suc i, omega (arith, before), omega (arith, within), is, is_next)

pub kept_two : (keep : ℕ → Bool) (xs : List ℕ) (a : ℕ) → suc a < length (filter keep xs)
    → AreTwoAt xs (filter keep xs) a
kept_two keep [] a there = absurd (omega (arith, there))
kept_two keep (x ∷ xs) a there = elim (cases_Bool (keep x)) [
  | inl is ↦
      let same = cond-true (keep x) (x ∷ filter keep xs) (filter keep xs) is in
      subst (λ (ys : List ℕ). AreTwoAt (x ∷ xs) ys a) (sym same)
      (two_first keep x xs (filter keep xs) (kept_at keep xs) (kept_two keep xs) a
      (subst (λ (ys : List ℕ). suc a < length ys) same there))
  | inr fails ↦
      let same = cond-false (keep x) (x ∷ filter keep xs) (filter keep xs) fails in
      subst (λ (ys : List ℕ). AreTwoAt (x ∷ xs) ys a) (sym same)
      (two_behind x xs (filter keep xs) a
      (kept_two keep xs a (subst (λ (ys : List ℕ). suc a < length ys) same there)))
]
