-- The labels that are open, and what placing left of them.
use Rattle.std.proofs.Common.{◌≡◌, ℕ, ◌+◌, ◌<◌, ◌≤◌, List, [], ◌∷◌, ◌++◌, get_or, sym, subst, inl, inr, arith}
use Rattle.std.specs.Prelude.{◌↔◌, Contains}
use Rattle.std.proofs.lemmas.Bool.{cases_eq}
use Rattle.std.proofs.lemmas.List.Elements.{Contains-append_left, Contains-append_right, Contains-append_cases}
use Rattle.ra_labels.proofs.Members.{head_or_behind, at_head, none_there}

-- holds if the labels are those below n that are open
abbrev pub AreOpenBelow : List ℕ → ℕ → List ℕ → Type 0
AreOpenBelow numbers n labels = (b : ℕ) → Contains labels b ↔ ((b < n) × (0 < get_or numbers b 0))

pub none_open : (numbers : List ℕ) → AreOpenBelow numbers 0 []
none_open numbers b = ((λ there. absurd (none_there b there)), (λ both. absurd (let low = both.0 in omega (arith, low))))

pub open_more : (numbers labels more : List ℕ) (n : ℕ) → AreOpenBelow numbers n labels → 0 < get_or numbers n 0
    → more ≡ labels ++ n ∷ [] → AreOpenBelow numbers (n + 1) more
open_more numbers labels more n so_far some is b = (
  (λ there. elim (Contains-append_cases labels (n ∷ []) b (subst (λ xs. Contains xs b) is there)) [
    | inl before ↦ let both = (so_far b).0 before in (let low = both.0 in omega (arith, low), both.1)
    | inr last ↦ elim (head_or_behind n [] b last) [
      | inl here ↦ subst (λ b. (b < n + 1) × (0 < get_or numbers b 0)) here (omega arith, some)
      | inr further ↦ absurd (none_there b further)
    ]
  ]),
  (λ both. subst (λ xs. Contains xs b) (sym is) (elim (cases_eq b n) [
    | inl here ↦ Contains-append_right labels (n ∷ []) b (at_head n [] b (sym here))
    | inr other ↦
        Contains-append_left labels (n ∷ []) b ((so_far b).1 (let low = both.0 in omega (arith, low, other), both.1))
  ])),
)

pub open_same : (numbers labels : List ℕ) (n : ℕ) → AreOpenBelow numbers n labels → get_or numbers n 0 ≤ 0
    → AreOpenBelow numbers (n + 1) labels
open_same numbers labels n so_far none b = (
  (λ there. let both = (so_far b).0 there in (let low = both.0 in omega (arith, low), both.1)),
  (λ both. (so_far b).1 (elim (cases_eq b n) [
    | inl here ↦ absurd (let some = subst (λ b. 0 < get_or numbers b 0) here both.1 in omega (arith, some, none))
    | inr other ↦ (let low = both.0 in omega (arith, low, other), both.1)
  ])),
)
