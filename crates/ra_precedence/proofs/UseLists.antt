-- The lists of the conditions that each label can meet.
use Rattle.std.proofs.Common.{◌≡◌, ℕ, zero, suc, ◌+◌, ◌<◌, List, [], ◌∷◌, ◌++◌, length, get_or, set, take, refl, sym, ap, ◌∙◌, subst, inl, inr, arith}
use Rattle.std.specs.Prelude.{◌⊎◌, map, Contains}
use Rattle.std.proofs.lemmas.Bool.{cases_eq}
use Rattle.std.proofs.lemmas.List.{get_or-set_same, get_or-set_other, map-set, length-map, get_or-take, length-take-le}
use Rattle.std.proofs.lemmas.List.Elements.{Contains-append_left, Contains-append_right, Contains-append_cases}
use Rattle.ra_labels.proofs.Members.{head_or_behind, at_head, none_there}
use Rattle.ra_precedence.specs.Conditions.{Condition, no_condition, condition_at}
use Rattle.ra_precedence.specs.Placing.{AreAdded, AreUses}
use Rattle.ra_precedence.proofs.Using.{in_more, still_in, last_in}

module _ {A : Type 0} (f : A → List ℕ) where
  -- a list that was replaced, and the others
  pub replaced : (xs : List A) (i : ℕ) (v : A) → i < length xs → get_or (map f (set xs i v)) i [] ≡ f v
  replaced xs i v low =
      ap (λ ys. get_or ys i []) (map-set f xs i v)
      ∙ get_or-set_same (map f xs) i (f v) [] (rw (length-map xs f) low)

  pub not_replaced : (xs : List A) (i j : ℕ) (v : A) → ¬ (j ≡ i) → get_or (map f (set xs i v)) j [] ≡ get_or (map f xs) j []
  not_replaced xs i j v other =
      ap (λ ys. get_or ys j []) (map-set f xs i v) ∙ get_or-set_other (map f xs) i j (f v) [] other

  -- one more list without elements
  pub empty_more : (xs : List A) (v : A) (i : ℕ) → f v ≡ [] → ((j : ℕ) → get_or (map f xs) j [] ≡ [])
      → get_or (map f (xs ++ v ∷ [])) i [] ≡ []
  empty_more [] v zero none each = none
  empty_more [] v (suc i) none each = refl
  empty_more (x ∷ xs) v zero none each = each zero
  empty_more (x ∷ xs) v (suc i) none each = empty_more xs v i none (λ j. each (suc j))

pub added_none : (index : ℕ) (uses : List (List ℕ)) → AreAdded [] index uses uses
added_none index uses c i = (
  (λ there. inl there),
  (λ either. elim either [
    | inl there ↦ there
    | inr both ↦ absurd (none_there c both.1)
  ]),
)

-- one more label
module _ (labels : List ℕ) (index k : ℕ) (old now next : List (List ℕ)) (within : k < length labels)
    (added : AreAdded (take k labels) index old now)
    (here_is : get_or next (get_or labels k 0) [] ≡ get_or now (get_or labels k 0) [] ++ index ∷ [])
    (other_is : (c : ℕ) → ¬ (c ≡ get_or labels k 0) → get_or next c [] ≡ get_or now c []) where
  abbrev label : ℕ
  label = get_or labels k 0

  widened : (c i : ℕ) → Contains (get_or now c []) i
      → Contains (get_or old c []) i ⊎ ((i ≡ index) × Contains (take (k + 1) labels) c)
  widened c i there = elim ((added c i).0 there) [
    | inl before ↦ inl before
    | inr both ↦ inr (both.0, still_in labels k c within both.1)
  ]

  more_from : (c i : ℕ) → Contains (get_or next c []) i
      → Contains (get_or old c []) i ⊎ ((i ≡ index) × Contains (take (k + 1) labels) c)
  more_from c i there = elim (cases_eq c label) [
    | inl here ↦
        elim (Contains-append_cases (get_or now label []) (index ∷ []) i
        (subst (λ xs. Contains xs i) here_is (subst (λ c. Contains (get_or next c []) i) here there))) [
          | inl before ↦ widened c i (subst (λ c. Contains (get_or now c []) i) (sym here) before)
          | inr last ↦ elim (head_or_behind index [] i last) [
            | inl is ↦ inr (sym is, subst (Contains (take (k + 1) labels)) (sym here) (last_in labels k within))
            | inr further ↦ absurd (none_there i further)
          ]
        ]
    | inr other ↦ widened c i (subst (λ xs. Contains xs i) (other_is c other) there)
  ]

  -- what was in a list still is
  stays : (c i : ℕ) → Contains (get_or now c []) i → Contains (get_or next c []) i
  stays c i there = elim (cases_eq c label) [
    | inl here ↦ subst (λ c. Contains (get_or next c []) i) (sym here) (subst (λ xs. Contains xs i) (sym here_is)
        (Contains-append_left (get_or now label []) (index ∷ []) i (subst (λ c. Contains (get_or now c []) i) here there)))
    | inr other ↦ subst (λ xs. Contains xs i) (sym (other_is c other)) there
  ]

  index_there : Contains (get_or next label []) index
  index_there = subst (λ xs. Contains xs index) (sym here_is)
      (Contains-append_right (get_or now label []) (index ∷ []) index (at_head index [] index refl))

  more_to : (c i : ℕ) → Contains (get_or old c []) i ⊎ ((i ≡ index) × Contains (take (k + 1) labels) c)
      → Contains (get_or next c []) i
  more_to c i (inl before) = stays c i ((added c i).1 (inl before))
  more_to c i (inr both) = elim (in_more labels k c within both.1) [
    | inl before ↦ stays c i ((added c i).1 (inr (both.0, before)))
    | inr last ↦ subst (λ c. Contains (get_or next c []) i) last (subst (Contains (get_or next label [])) (sym both.0) index_there)
  ]

  pub added_more : AreAdded (take (k + 1) labels) index old next
  added_more c i = (more_from c i, more_to c i)

pub uses_none : (uses : List (List ℕ)) → ((c : ℕ) → get_or uses c [] ≡ []) → AreUses [] uses
uses_none uses empty c i = (
  (λ there. absurd (none_there i (subst (λ xs. Contains xs i) (empty c) there))),
  (λ both. absurd (let low = both.0 in omega (arith, low))),
)

-- one more condition
module _ (conditions : List Condition) (k : ℕ) (old next : List (List ℕ)) (within : k < length conditions)
    (uses : AreUses (take k conditions) old) (added : AreAdded (condition_at conditions k).after k old next) where
  first_read : (i : ℕ) → i < k → condition_at (take k conditions) i ≡ condition_at conditions i
  first_read i low = get_or-take k conditions i no_condition low

  first_long : length (take k conditions) ≡ k
  first_long = length-take-le k conditions (omega (arith, within))

  more_long : length (take (k + 1) conditions) ≡ k + 1
  more_long = length-take-le (k + 1) conditions (omega (arith, within))

  read_more : (i : ℕ) → i < k + 1 → condition_at (take (k + 1) conditions) i ≡ condition_at conditions i
  read_more i low = get_or-take (k + 1) conditions i no_condition low

  used_from : (c i : ℕ) → Contains (get_or next c []) i
      → (i < length (take (k + 1) conditions)) × Contains (condition_at (take (k + 1) conditions) i).after c
  used_from c i there = elim ((added c i).0 there) [
    | inl before ↦
        let (low, after) = (uses c i).0 before in
        let below : i < k = omega (arith, low, first_long) in (
          omega (arith, below, more_long),
          subst (λ (h : Condition). Contains h.after c) (first_read i below ∙ sym (read_more i (omega (arith, below)))) after,
        )
    | inr both ↦
        let is = both.0 in (
          omega (arith, is, more_long),
          subst (λ (h : Condition). Contains h.after c)
              (ap (condition_at conditions) (sym is) ∙ sym (read_more i (omega (arith, is)))) both.1,
        )
  ]

  used_to : (c i : ℕ) → (i < length (take (k + 1) conditions)) × Contains (condition_at (take (k + 1) conditions) i).after c
      → Contains (get_or next c []) i
  used_to c i both =
      let low = both.0 in
      let below : i < k + 1 = omega (arith, low, more_long) in
      let after = subst (λ (h : Condition). Contains h.after c) (read_more i below) both.1 in
      (added c i).1 (elim (cases_eq i k) [
        | inl last ↦ inr (last, subst (λ j. Contains (condition_at conditions j).after c) last after)
        | inr other ↦
            let earlier : i < k = omega (arith, below, other) in
            inl ((uses c i).1 (omega (arith, earlier, first_long), subst (λ (h : Condition). Contains h.after c) (sym (first_read i earlier)) after))
      ])

  pub uses_more : AreUses (take (k + 1) conditions) next
  uses_more c i = (used_from c i, used_to c i)
