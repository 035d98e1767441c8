-- Lemmas on the members of a list with one more element.
use Rattle.std.proofs.Common.{◌≡◌, ℕ, suc, ◌+◌, ◌-◌, ◌<◌, ◌≤◌, List, [], ◌∷◌, ◌++◌, length, take, drop, get_or}
use Rattle.std.proofs.Common.{map, refl, sym, ap, ◌∙◌, subst, inl, inr, arith}
use Rattle.std.specs.Prelude.{◌⊎◌, Contains}
use Rattle.std.specs.List.{insert}
use Rattle.std.proofs.lemmas.Bool.{cases_lt, cases_eq}
use Rattle.std.proofs.lemmas.List.{map-append, take-append-drop, take-map, drop-map}
use Rattle.std.proofs.lemmas.List.Edits.{length-insert, get_or-insert_below, get_or-insert_at, get_or-insert_above}
use Rattle.std.proofs.lemmas.List.Elements.{Contains-append_left, Contains-append_right, Contains-append_cases}
use Rattle.ra_labels.proofs.Members.{head_or_behind, at_head, behind_head}

module _ {A : Type 0} where
  -- the element at an index after an insertion: an earlier one, the new one, or the one that stood one index lower
  pub data IsFrom (xs : List A) (i : ℕ) (x d : A) (k : ℕ) : Type 0 where
    Before : k < i → get_or (insert xs i x) k d ≡ get_or xs k d → IsFrom xs i x d k
    Here : k ≡ i → get_or (insert xs i x) k d ≡ x → IsFrom xs i x d k
    Behind : (j : ℕ) → k ≡ suc j → i ≤ j → j < length xs → get_or (insert xs i x) k d ≡ get_or xs j d
        → IsFrom xs i x d k

  pub from_insert : (xs : List A) (i : ℕ) (x d : A) (k : ℕ) → i ≤ length xs → k < length (insert xs i x)
      → IsFrom xs i x d k
  from_insert xs i x d k few there = elim (cases_lt k i) [
    | inl low ↦ Before low (get_or-insert_below xs i x d k low few)
    | inr high ↦ elim (cases_eq k i) [
      | inl same ↦ Here same (ap (λ n. get_or (insert xs i x) n d) same ∙ get_or-insert_at xs i x d few)
      | inr other ↦
          let j : ℕ = k - 1 in
          let from : i ≤ j = omega (arith, other) in
          let next : k ≡ j + 1 = omega (arith, other) in
          Behind j (omega (arith, other)) from (omega (arith, other, length-insert xs i x few))
          (ap (λ n. get_or (insert xs i x) n d) next ∙ get_or-insert_above xs i x d j from few)
    ]
  ]

  pub new_in_insert : (xs : List A) (i : ℕ) (x : A) → Contains (insert xs i x) x
  new_in_insert xs i x = Contains-append_right (take i xs) (x ∷ drop i xs) x (at_head x (drop i xs) x refl)

  pub old_in_insert : (xs : List A) (i : ℕ) (x y : A) → Contains xs y → Contains (insert xs i x) y
  old_in_insert xs i x y there =
      elim (Contains-append_cases (take i xs) (drop i xs) y
      (subst (λ ys. Contains ys y) (sym (take-append-drop i xs)) there)) [
        | inl left ↦ Contains-append_left (take i xs) (x ∷ drop i xs) y left
        | inr right ↦ Contains-append_right (take i xs) (x ∷ drop i xs) y (behind_head x (drop i xs) y right)
      ]

  pub insert_cases : (xs : List A) (i : ℕ) (x y : A) → Contains (insert xs i x) y → Contains xs y ⊎ (x ≡ y)
  insert_cases xs i x y there = elim (Contains-append_cases (take i xs) (x ∷ drop i xs) y there) [
    | inl left ↦
        inl (subst (λ ys. Contains ys y) (take-append-drop i xs) (Contains-append_left (take i xs) (drop i xs) y left))
    | inr right ↦ elim (head_or_behind x (drop i xs) y right) [
      | inl now ↦ inr now
      | inr behind ↦ inl
          (subst (λ ys. Contains ys y) (take-append-drop i xs) (Contains-append_right (take i xs) (drop i xs) y behind))
    ]
  ]

pub map-insert : {A B : Type 0} (f : A → B) (xs : List A) (i : ℕ) (x : A)
    → map f (insert xs i x) ≡ insert (map f xs) i (f x)
map-insert f xs i x =
    map-append f (take i xs) (x ∷ drop i xs)
    ∙ ap (λ ys. ys ++ f x ∷ map f (drop i xs)) (sym (take-map f i xs))
    ∙ ap (λ ys. take i (map f xs) ++ f x ∷ ys) (sym (drop-map f i xs))

-- functions that agree on the members of a list
pub map_same : {A B : Type 0} (f g : A → B) (xs : List A) → ((x : A) → Contains xs x → f x ≡ g x) → map f xs ≡ map g xs
map_same f g [] same = refl
map_same f g (x ∷ xs) same =
    ap (λ y. y ∷ map f xs) (same x (at_head x xs x refl))
    ∙ ap (λ ys. g x ∷ ys) (map_same f g xs (λ y there. same y (behind_head x xs y there)))
