-- Lemmas on the written values among those of a read, step by step.
use Rattle.std.proofs.Common.{◌≡◌, ℕ, ◌+◌, ◌<◌, true, List, [], ◌∷◌, ◌++◌, length, get_or, take, Option, Some, None, refl, sym, ap, ◌∙◌, subst, inl, inr}
use Rattle.std.specs.Prelude.{◌↔◌, ◌⊎◌, Contains, IsTrue}
use Rattle.std.specs.BTreeSet.{BTreeSet, contains, Updates}
use Rattle.std.specs.Ordering.{nat_cmp}
use Rattle.std.proofs.lemmas.Bool.{cases_eq}
use Rattle.std.proofs.lemmas.Option.{none-some, same_Some}
use Rattle.std.proofs.lemmas.List.{take_more}
use Rattle.std.proofs.lemmas.List.Elements.{Contains-append_left, Contains-append_right, Contains-append_cases}
use Rattle.ra_labels.proofs.Members.{head_or_behind, at_head, none_there}
use Rattle.ra_list_order.proofs.Pointed.{apart_test}

-- holds if the set has the written ones of the values
abbrev pub AreWrittenIn : List (Option ℕ) → BTreeSet ℕ → Type 0
AreWrittenIn values set = (x : ℕ) → IsTrue (contains nat_cmp set x) ↔ Contains values (Some x)

module _ (values : List (Option ℕ)) (i : ℕ) (v : Option ℕ) (within : i < length values)
    (is : v ≡ get_or values i None) where
  grown : take (i + 1) values ≡ take i values ++ v ∷ []
  grown = take_more values i None within ∙ ap (λ u. take i values ++ u ∷ []) (sym is)

  newest_or_older : (u : Option ℕ) → Contains (take (i + 1) values) u → (v ≡ u) ⊎ Contains (take i values) u
  newest_or_older u there =
      elim (Contains-append_cases (take i values) (v ∷ []) u (subst (λ vs. Contains vs u) grown there)) [
        | inl older ↦ inr older
        | inr new ↦ elim (head_or_behind v [] u new) [
          | inl here ↦ inl here
          | inr further ↦ absurd (none_there u further)
        ]
      ]

  older : (u : Option ℕ) → Contains (take i values) u → Contains (take (i + 1) values) u
  older u there = subst (λ vs. Contains vs u) (sym grown) (Contains-append_left (take i values) (v ∷ []) u there)

  newest : Contains (take (i + 1) values) v
  newest = subst (λ vs. Contains vs v) (sym grown)
      (Contains-append_right (take i values) (v ∷ []) v (at_head v [] v refl))

  -- a further value that is written
  pub written_more : (old new : BTreeSet ℕ) (k : ℕ) → v ≡ Some k → Updates nat_cmp old new k true
      → AreWrittenIn (take i values) old → AreWrittenIn (take (i + 1) values) new
  written_more old new k some updates so_far x = elim (cases_eq k x) [
    | inl same ↦ (
      (λ has. subst (λ u. Contains (take (i + 1) values) u) (some ∙ ap Some same) newest),
      (λ there. subst (λ y. contains nat_cmp new y ≡ true) same updates.1),
    )
    | inr other ↦
        let unchanged = updates.2 x (apart_test k x (λ same. other (sym same))) in (
          (λ has. older (Some x) ((so_far x).0 (sym unchanged ∙ has))),
          (λ there. elim (newest_or_older (Some x) there) [
            | inl here ↦ absurd (other (same_Some k x (sym some ∙ here)))
            | inr before ↦ unchanged ∙ (so_far x).1 before
          ]),
        )
  ]

  -- a further one that is none
  pub written_same : (set : BTreeSet ℕ) → v ≡ None → AreWrittenIn (take i values) set
      → AreWrittenIn (take (i + 1) values) set
  written_same set none so_far x = (
    (λ has. older (Some x) ((so_far x).0 has)),
    (λ there. elim (newest_or_older (Some x) there) [
      | inl here ↦ absurd (none-some x (sym none ∙ here))
      | inr before ↦ (so_far x).1 before
    ]),
  )
