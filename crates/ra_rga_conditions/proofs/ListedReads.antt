-- The elements that a read of an RGA lists, in the list of all.
use Rattle.std.proofs.Common.{◌≡◌, ℕ, Bool, true, false, List, [], ◌∷◌, ◌++◌, filter, refl, sym, ap, subst, inl, inr}
use Rattle.std.specs.Prelude.{map, Contains}
use Rattle.std.proofs.lemmas.Bool.{cases_Bool, cond-true, cond-false}
use Rattle.ra_labels.specs.Edges.{IsBefore}
use Rattle.ra_labels.specs.Lists.{shown}
use Rattle.ra_labels.specs.TheoremTerms.{elements_in, HasNoDuplicates}
use Rattle.ra_labels.proofs.Members.{head_or_behind, at_head, behind_head, none_there}
use Rattle.ra_list_order.proofs.Befores.{before_right, first_there, second_there}

shown_yes : (x : ℕ) (is : Bool) (rest : List (ℕ × Bool)) → is ≡ true → shown ((x, is) ∷ rest) ≡ x ∷ shown rest
shown_yes x is rest yes_it =
    ap (map (λ (e : ℕ × Bool). e.0)) (cond-true is ((x, is) ∷ filter (λ e. e.1) rest) (filter (λ e. e.1) rest) yes_it)

shown_not : (x : ℕ) (is : Bool) (rest : List (ℕ × Bool)) → is ≡ false → shown ((x, is) ∷ rest) ≡ shown rest
shown_not x is rest not =
    ap (map (λ (e : ℕ × Bool). e.0)) (cond-false is ((x, is) ∷ filter (λ e. e.1) rest) (filter (λ e. e.1) rest) not)

pub shown_there : (list : List (ℕ × Bool)) (y : ℕ) → Contains (shown list) y → Contains (elements_in list) y
shown_there [] y there = absurd (none_there y there)
shown_there ((x, is) ∷ rest) y there = elim (cases_Bool is) [
  | inl yes_it ↦ elim (head_or_behind x (shown rest) y (subst (λ ys. Contains ys y) (shown_yes x is rest yes_it) there)) [
    | inl here ↦ at_head x (elements_in rest) y here
    | inr further ↦ behind_head x (elements_in rest) y (shown_there rest y further)
  ]
  | inr not ↦ behind_head x (elements_in rest) y (shown_there rest y (subst (λ ys. Contains ys y) (shown_not x is rest not) there))
]

-- the shown elements are in the order of all
pub shown_before : (list : List (ℕ × Bool)) (x y : ℕ) → IsBefore (shown list) x y → IsBefore (elements_in list) x y
shown_before [] x y is = absurd is
shown_before ((z, is) ∷ rest) x y before = elim (cases_Bool is) [
  | inl yes_it ↦ elim (subst (λ ys. IsBefore ys x y) (shown_yes z is rest yes_it) before) [
    | inl both ↦ inl (both.0, shown_there rest y both.1)
    | inr later ↦ inr (shown_before rest x y later)
  ]
  | inr not ↦ inr (shown_before rest x y (subst (λ ys. IsBefore ys x y) (shown_not z is rest not) before))
]

-- two that are listed together
pub together : (before after : List ℕ) (x y : ℕ) → IsBefore (before ++ x ∷ y ∷ after) x y
together before after x y = before_right before (x ∷ y ∷ after) x y (inl (refl, at_head y after y refl))

-- shown elements that are in the order of all are in that of the shown ones
pub before_shown : (list : List (ℕ × Bool)) (x y : ℕ) → HasNoDuplicates (elements_in list) → Contains (shown list) x
    → Contains (shown list) y → IsBefore (elements_in list) x y → IsBefore (shown list) x y
before_shown [] x y once there_x there_y is = absurd is
before_shown ((z, is) ∷ rest) x y once there_x there_y before = elim (cases_Bool is) [
  | inl yes_it ↦
      let named = shown_yes z is rest yes_it in
      subst (λ ys. IsBefore ys x y) (sym named) (elim before [
        | inl both ↦ elim (head_or_behind z (shown rest) y (subst (λ ys. Contains ys y) named there_y)) [
          | inl here ↦ absurd (once.0 (subst (Contains (elements_in rest)) (sym here) both.1))
          | inr further ↦ inl (both.0, further)
        ]
        | inr later ↦
            inr (before_shown rest x y once.1
            (behind_first (first_there (elements_in rest) x y later) (subst (λ ys. Contains ys x) named there_x))
            (behind_first (second_there (elements_in rest) x y later) (subst (λ ys. Contains ys y) named there_y)) later)
      ])
  | inr not ↦
      let named = shown_not z is rest not in
      subst (λ ys. IsBefore ys x y) (sym named) (elim before [
        | inl both ↦
            absurd (once.0 (subst (Contains (elements_in rest)) (sym both.0)
            (shown_there rest x (subst (λ ys. Contains ys x) named there_x))))
        | inr later ↦
            before_shown rest x y once.1 (subst (λ ys. Contains ys x) named there_x) (subst (λ ys. Contains ys y) named there_y) later
      ])
]
  where
    behind_first : {w : ℕ} → Contains (elements_in rest) w → Contains (z ∷ shown rest) w → Contains (shown rest) w
    behind_first {w} among there = elim (head_or_behind z (shown rest) w there) [
      | inl here ↦ absurd (once.0 (subst (Contains (elements_in rest)) (sym here) among))
      | inr further ↦ further
    ]

-- each element is shown once
pub shown_once : (list : List (ℕ × Bool)) → HasNoDuplicates (elements_in list) → HasNoDuplicates (shown list)
shown_once [] once = tt
shown_once ((z, is) ∷ rest) once = elim (cases_Bool is) [
  | inl yes_it ↦
      subst HasNoDuplicates (sym (shown_yes z is rest yes_it)) ((λ there. once.0 (shown_there rest z there)), shown_once rest once.1)
  | inr not ↦ subst HasNoDuplicates (sym (shown_not z is rest not)) (shown_once rest once.1)
]
