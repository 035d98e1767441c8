-- A list whose neighbours are in the order of another one with the same elements is that one.
use Rattle.std.proofs.Common.{◌≡◌, ◌↔◌, ℕ, List, [], ◌∷◌, ◌++◌, refl, sym, ap, ◌∙◌, subst, inl, inr}
use Rattle.std.specs.Prelude.{Contains}
use Rattle.std.proofs.lemmas.Bool.{cases_eq}
use Rattle.std.proofs.lemmas.List.Elements.{Contains-append_right}
use Rattle.ra_labels.specs.Edges.{IsBefore}
use Rattle.ra_labels.specs.TheoremTerms.{HasNoDuplicates}
use Rattle.ra_labels.proofs.Members.{head_or_behind, at_head, behind_head, none_there}
use Rattle.ra_list_order.proofs.Befores.{second_there}

-- what comes before an element comes before what is behind that
pub before_trans : (es : List ℕ) (p q r : ℕ) → HasNoDuplicates es → IsBefore es p q → IsBefore es q r → IsBefore es p r
before_trans [] p q r once first second = absurd first
before_trans (e ∷ es) p q r once (inl here) (inl again) = inl (here.0, again.1)
before_trans (e ∷ es) p q r once (inl here) (inr later) = inl (here.0, second_there es q r later)
before_trans (e ∷ es) p q r once (inr later) (inl again) =
    absurd (once.0 (subst (Contains es) (sym again.0) (second_there es p q later)))
before_trans (e ∷ es) p q r once (inr later) (inr further) = inr (before_trans es p q r once.1 later further)

-- holds if each element of the list comes in the order before the next one
abbrev pub AreInOrder : List ℕ → List ℕ → Type 0
AreInOrder xs order = (before after : List ℕ) (x y : ℕ) → xs ≡ before ++ x ∷ y ∷ after → IsBefore order x y

-- then the first one comes before all others
first_of_all : (a : ℕ) (rest_xs order : List ℕ) → HasNoDuplicates order → AreInOrder (a ∷ rest_xs) order → (y : ℕ) → Contains rest_xs y
    → IsBefore order a y
first_of_all a [] order once ordered y there = absurd (none_there y there)
first_of_all a (b ∷ bs) order once ordered y there =
    let next = ordered [] bs a b refl in
    elim (head_or_behind b bs y there) [
      | inl here ↦ subst (IsBefore order a) here next
      | inr further ↦
          before_trans order a b y once next
          (first_of_all b bs order once (λ before after u v split. ordered (a ∷ before) after u v (ap (λ zs. a ∷ zs) split)) y further)
    ]

pub same_list : (xs order : List ℕ) → HasNoDuplicates xs → HasNoDuplicates order
    → ((y : ℕ) → Contains xs y ↔ Contains order y) → AreInOrder xs order → xs ≡ order
same_list [] [] once once_order same ordered = refl
same_list [] (z ∷ zs) once once_order same ordered = absurd (none_there z ((same z).1 (at_head z zs z refl)))
same_list (a ∷ rest_xs) [] once once_order same ordered = absurd (none_there a ((same a).0 (at_head a rest_xs a refl)))
same_list (a ∷ rest_xs) (z ∷ zs) once once_order same ordered = elim (cases_eq a z) [
  | inl is ↦
      let rest : rest_xs ≡ zs = same_list rest_xs zs once.1 once_order.1
      (λ y. (
        (λ there. elim (head_or_behind z zs y ((same y).0 (behind_head a rest_xs y there))) [
          | inl here ↦ absurd (once.0 (subst (Contains rest_xs) (sym here ∙ sym is) there))
          | inr further ↦ further
        ]),
        (λ there. elim (head_or_behind a rest_xs y ((same y).1 (behind_head z zs y there))) [
          | inl here ↦ absurd (once_order.0 (subst (Contains zs) (sym here ∙ is) there))
          | inr further ↦ further
        ]),
      ))
      (λ before after x y split. elim (ordered (a ∷ before) after x y (ap (λ ys. a ∷ ys) split)) [
        | inl here ↦ absurd (once.0 (subst (Contains rest_xs) (sym here.0 ∙ sym is)
            (subst (λ ys. Contains ys x) (sym split) (Contains-append_right before (x ∷ y ∷ after) x (at_head x (y ∷ after) x refl)))))
        | inr later ↦ later
      ]) in
      (λ i. is i ∷ rest i)
  | inr apart ↦ elim (head_or_behind a rest_xs z ((same z).1 (at_head z zs z refl))) [
    | inl here ↦ absurd (apart here)
    | inr further ↦ elim (first_of_all a rest_xs (z ∷ zs) once_order ordered z further) [
      | inl first ↦ absurd (apart (sym first.0))
      | inr later ↦ absurd (once_order.0 (second_there zs a z later))
    ]
  ]
]

-- only one of two elements comes before the other one
pub never_both : (es : List ℕ) (p q : ℕ) → HasNoDuplicates es → IsBefore es p q → ¬ IsBefore es q p
never_both [] p q once first second = first
never_both (e ∷ es) p q once (inl here) (inl again) = once.0 (subst (Contains es) (sym again.0) here.1)
never_both (e ∷ es) p q once (inl here) (inr later) = once.0 (subst (Contains es) (sym here.0) (second_there es q p later))
never_both (e ∷ es) p q once (inr later) (inl again) = once.0 (subst (Contains es) (sym again.0) (second_there es p q later))
never_both (e ∷ es) p q once (inr later) (inr further) = never_both es p q once.1 later further
