-- The updates of the parts of a sequence, and the order of these parts.
use Rattle.std.proofs.Common.{◌≡◌, Bool, true, List, [], ◌∷◌, ◌++◌, filter, Option, Some, None, refl, sym, ap, ◌∙◌, subst, inl, inr}
use Rattle.std.specs.Prelude.{◌⊎◌, filter_map, Contains, if◌then◌else◌}
use Rattle.std.specs.List.{cons_option}
use Rattle.std.proofs.lemmas.Bool.{cases_Bool, cond-true, cond-false}
use Rattle.std.proofs.lemmas.Option.{none-some}
use Rattle.std.proofs.lemmas.List.{append_assoc}
use Rattle.std.proofs.lemmas.List.Elements.{Contains-append_cases}
use Rattle.ra_labels.specs.TheoremTerms.{StandsBefore}
use Rattle.ra_labels.proofs.Members.{head_or_behind, split_at}
use Rattle.ra_theorems.proofs.FilterMaps.{split_map}

module _ {A B : Type 0} (h : A → Option B) where
  -- of what comes later, what it comes from comes later
  pub stand_from : (xs : List A) (u v : B) → StandsBefore u v (filter_map h xs)
      → (p q : A) × StandsBefore p q xs × (h p ≡ Some u) × (h q ≡ Some v)
  stand_from xs u v (before, between, after, split) =
      let (first, later, q, q_split, q_is, front) = split_map h xs (before ++ u ∷ between) v after split in
      let (start, rest, p, p_split, p_is, none) = split_map h first before u between front in
      (p, q, (start, rest, later, q_split ∙ ap (λ ys. ys ++ q ∷ later) p_split), p_is, q_is)

  appended : (xs ys : List A) → filter_map h (xs ++ ys) ≡ filter_map h xs ++ filter_map h ys
  appended [] ys = refl
  appended (x ∷ xs) ys = consed (h x) (filter_map h xs) (filter_map h ys) (appended xs ys)
    where
      consed : (o : Option B) (front back : List B) → filter_map h (xs ++ ys) ≡ front ++ back
          → cons_option o (filter_map h (xs ++ ys)) ≡ cons_option o front ++ back
      consed None front back is = is
      consed (Some z) front back is = ap (λ zs. z ∷ zs) is

  mapped_head : (x : A) (xs : List A) (u : B) → h x ≡ Some u → filter_map h (x ∷ xs) ≡ u ∷ filter_map h xs
  mapped_head x xs u is = ap (λ o. cons_option o (filter_map h xs)) is

  -- and the other way round
  pub stand_to : (xs : List A) (p q : A) (u v : B) → StandsBefore p q xs → h p ≡ Some u → h q ≡ Some v
      → StandsBefore u v (filter_map h xs)
  stand_to xs p q u v (before, between, after, split) p_is q_is = (
    filter_map h before,
    filter_map h between,
    filter_map h after,
    ap (filter_map h) split ∙ appended (before ++ p ∷ between) (q ∷ after)
        ∙ ap (λ us. us ++ filter_map h (q ∷ after)) (appended before (p ∷ between) ∙ ap (λ us. filter_map h before ++ us) (mapped_head p between u p_is))
        ∙ ap (λ us. (filter_map h before ++ u ∷ filter_map h between) ++ us) (mapped_head q after v q_is),
  )

  -- what a test lets through
  abbrev pub tested : (A → Bool) → A → Option B
  tested passes x = if passes x then h x else None

  pub filtered : (passes : A → Bool) (xs : List A) → filter_map h (filter passes xs) ≡ filter_map (tested passes) xs
  filtered passes [] = refl
  filtered passes (x ∷ xs) = elim (cases_Bool (passes x)) [
    | inl is ↦
        ap (filter_map h) (cond-true (passes x) (x ∷ filter passes xs) (filter passes xs) is)
        ∙ ap (cons_option (h x)) (filtered passes xs)
        ∙ ap (λ o. cons_option o (filter_map (tested passes) xs)) (sym (cond-true (passes x) (h x) None is))
    | inr not ↦
        ap (filter_map h) (cond-false (passes x) (x ∷ filter passes xs) (filter passes xs) not)
        ∙ filtered passes xs
        ∙ ap (λ o. cons_option o (filter_map (tested passes) xs)) (sym (cond-false (passes x) (h x) None not))
  ]

  pub tested_from : (passes : A → Bool) (x : A) (u : B) → tested passes x ≡ Some u → (passes x ≡ true) × (h x ≡ Some u)
  tested_from passes x u is = elim (cases_Bool (passes x)) [
    | inl yes_it ↦ (yes_it, sym (cond-true (passes x) (h x) None yes_it) ∙ is)
    | inr not ↦ absurd (none-some u (sym (cond-false (passes x) (h x) None not) ∙ is))
  ]

-- two different members of a list stand one before the other
pub either_before : {A : Type 0} (xs : List A) (p q : A) → Contains xs p → Contains xs q → ¬ (p ≡ q)
    → StandsBefore p q xs ⊎ StandsBefore q p xs
either_before xs p q there_p there_q apart =
    let (before, after, split) = split_at xs p there_p in
    elim (Contains-append_cases before (p ∷ after) q (subst (λ ys. Contains ys q) split there_q)) [
      | inl left ↦
          let (first, between, front) = split_at before q left in
          inr (first, between, after, split ∙ ap (λ ys. ys ++ p ∷ after) front)
      | inr right ↦ elim (head_or_behind p after q right) [
        | inl same ↦ absurd (apart same)
        | inr behind ↦
            let (between, rest, back) = split_at after q behind in
            inl (before, between, rest, split ∙ ap (λ ys. before ++ p ∷ ys) back ∙ sym (append_assoc before (p ∷ between) (q ∷ rest)))
      ]
    ]
