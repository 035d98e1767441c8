-- Lemmas on lists that `filter_map` makes: where their elements come from, and that their order does not matter.
use Rattle.std.proofs.Common.{◌≡◌, ℕ, ◌+◌, ◌≤◌, Bool, true, cond, List, [], ◌∷◌, ◌++◌, Option, Some, None, refl, sym, ap, ◌∙◌, subst, inl, inr, arith}
use Rattle.std.specs.Prelude.{Contains, IsPermutation, sum_by}
use Rattle.std.specs.List.{cons_option, filter_map}
use Rattle.std.specs.Option.{option_map_or}
use Rattle.std.proofs.lemmas.Bool.{cases_Bool, cond-true, cond-false}
use Rattle.std.proofs.lemmas.List.Elements.{Contains-append_right}
use Rattle.std.proofs.lemmas.List.Sorted.{IsPermutation-refl, IsPermutation-sym, IsPermutation-trans, IsPermutation-cons, IsPermutation-middle}
use Rattle.std.proofs.lemmas.List.Sums.{sum_by-cons, sum_by-append}
use Rattle.ra_labels.proofs.Members.{head_or_behind, at_head, behind_head, split_at, none_there}

module _ {A B : Type 0} (h : A → Option B) where
  -- holds if the elements split at one that is mapped to y, and those before it are mapped to the given list
  abbrev pub SplitsAt : List A → List B → B → Type 0
  SplitsAt xs before y = (first later : List A) × (x : A) × (xs ≡ first ++ x ∷ later) × (h x ≡ Some y)
      × (filter_map h first ≡ before)

  -- one more element that comes first
  with_first : (x : A) (xs : List A) (o : Option B) (before : List B) (y : B) → h x ≡ o → SplitsAt xs before y
      → SplitsAt (x ∷ xs) (cons_option o before) y
  with_first x xs o before y maps (first, later, z, split, to, same) = (
    x ∷ first,
    later,
    z,
    ap (λ ys. x ∷ ys) split,
    to,
    ap (λ p. cons_option p (filter_map h first)) maps ∙ ap (cons_option o) same,
  )

  split_head : (x : A) (xs : List A) (d : B) (before : List B) (y : B) (behind : List B) → h x ≡ Some d
      → d ∷ filter_map h xs ≡ before ++ y ∷ behind
      → ((front : List B) → filter_map h xs ≡ front ++ y ∷ behind → SplitsAt xs front y)
      → SplitsAt (x ∷ xs) before y
  split_head x xs d [] y behind maps is further =
      let here : d ≡ y = cc (is) in
      ([], xs, x, refl, maps ∙ ap Some here, refl)
  split_head x xs d (b ∷ before) y behind maps is further =
      let here : d ≡ b = cc (is) in
      let rest : filter_map h xs ≡ before ++ y ∷ behind = cc (is) in
      with_first x xs (Some b) before y (maps ∙ ap Some here) (further before rest)

  split_option : (x : A) (xs : List A) (o : Option B) (before : List B) (y : B) (behind : List B) → h x ≡ o
      → cons_option o (filter_map h xs) ≡ before ++ y ∷ behind
      → ((front : List B) → filter_map h xs ≡ front ++ y ∷ behind → SplitsAt xs front y)
      → SplitsAt (x ∷ xs) before y
  split_option x xs None before y behind maps is further = with_first x xs None before y maps (further before is)
  split_option x xs (Some d) before y behind maps is further = split_head x xs d before y behind maps is further

  -- where the list splits, so do the elements that it comes from
  pub split_map : (xs : List A) (before : List B) (y : B) (behind : List B) → filter_map h xs ≡ before ++ y ∷ behind
      → SplitsAt xs before y
  split_map [] [] y behind is = absurd (cc (is))
  split_map [] (b ∷ before) y behind is = absurd (cc (is))
  split_map (x ∷ xs) before y behind is =
      split_option x xs (h x) before y behind refl is (λ front same. split_map xs front y behind same)

  -- the members are what members are mapped to
  pub mapped_from : (xs : List A) (y : B) → Contains (filter_map h xs) y → (x : A) × Contains xs x × (h x ≡ Some y)
  mapped_from xs y there =
      let (before, behind, split) = split_at (filter_map h xs) y there in
      let (first, later, x, is, maps, same) = split_map xs before y behind split in
      let found = Contains-append_right first (x ∷ later) x (at_head x later x refl) in
      (x, subst (λ zs. Contains zs x) (sym is) found, maps)

  behind_option : (o : Option B) (ys : List B) (y : B) → Contains ys y → Contains (cons_option o ys) y
  behind_option None ys y there = there
  behind_option (Some z) ys y there = behind_head z ys y there

  pub mapped_there : (xs : List A) (x : A) (y : B) → Contains xs x → h x ≡ Some y → Contains (filter_map h xs) y
  mapped_there [] x y there maps = absurd (none_there x there)
  mapped_there (z ∷ xs) x y there maps = elim (head_or_behind z xs x there) [
    | inl here ↦
        subst (λ o. Contains (cons_option o (filter_map h xs)) y) (sym (ap h here ∙ maps))
        (at_head y (filter_map h xs) y refl)
    | inr further ↦ behind_option (h z) (filter_map h xs) y (mapped_there xs x y further maps)
  ]

  sum_option : (f : B → ℕ) (o : Option B) (ys : List B)
      → sum_by f (cons_option o ys) ≡ option_map_or f o 0 + sum_by f ys
  sum_option f None ys = omega arith
  sum_option f (Some y) ys = sum_by-cons f y ys

  -- a sum over the list is one over the elements that it comes from
  pub sum_mapped : (f : B → ℕ) (xs : List A) → sum_by f (filter_map h xs) ≡ sum_by (λ x. option_map_or f (h x) 0) xs
  sum_mapped f [] = refl
  sum_mapped f (x ∷ xs) =
      sum_option f (h x) (filter_map h xs) ∙ ap (λ n. option_map_or f (h x) 0 + n) (sum_mapped f xs)
      ∙ sym (sum_by-cons (λ z. option_map_or f (h z) 0) x xs)

module _ {B : Type 0} (same : B → B → Bool) (sound : (x y : B) → same x y ≡ true → x ≡ y)
    (itself : (x : B) → same x x ≡ true) where
  abbrev one : B → B → ℕ
  one x y = cond (same x y) 1 0

  -- how often an element is in a list
  abbrev pub times : B → List B → ℕ
  times x ys = sum_by (one x) ys

  there_counted : (x : B) (ys : List B) → 1 ≤ times x ys → Contains ys x
  there_counted x [] some = absurd (omega (arith, some))
  there_counted x (y ∷ ys) some = elim (cases_Bool (same x y)) [
    | inl is ↦ at_head y ys x (sym (sound x y is))
    | inr other ↦
        let none = cond-false {A = ℕ} (same x y) 1 0 other in
        behind_head y ys x (there_counted x ys (omega (arith, some, sum_by-cons (one x) y ys, none)))
  ]

  -- lists in which each element is equally often have the same elements, in some order
  pub shuffled_by_counts : (xs ys : List B) → ((x : B) → times x xs ≡ times x ys) → IsPermutation xs ys
  shuffled_by_counts [] [] counts = IsPermutation-refl []
  shuffled_by_counts [] (y ∷ ys) counts =
      let once = cond-true {A = ℕ} (same y y) 1 0 (itself y) in
      absurd (omega (arith, counts y, sum_by-cons (one y) y ys, once))
  shuffled_by_counts (x ∷ xs) ys counts =
      let once = cond-true {A = ℕ} (same x x) 1 0 (itself x) in
      let found = there_counted x ys (omega (arith, counts x, sum_by-cons (one x) x xs, once)) in
      let (before, behind, split) = split_at ys x found in
      let rest = shuffled_by_counts xs (before ++ behind) (λ z.
      let whole : times z ys ≡ times z before + times z (x ∷ behind) =
      ap (times z) split ∙ sum_by-append (one z) before (x ∷ behind) in
      omega (
        arith,
        counts z,
        whole,
        sum_by-cons (one z) x xs,
        sum_by-cons (one z) x behind,
        sum_by-append (one z) before behind,
      )) in
      subst (IsPermutation (x ∷ xs)) (sym split)
      (IsPermutation-trans (x ∷ xs) (x ∷ (before ++ behind)) (before ++ x ∷ behind)
      (IsPermutation-cons x xs (before ++ behind) rest)
      (IsPermutation-sym (before ++ x ∷ behind) (x ∷ (before ++ behind)) (IsPermutation-middle before x behind)))
