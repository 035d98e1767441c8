-- Lemmas on the ranks of labels, place by place.
use Rattle.std.proofs.Common.{◌≡◌, ℕ, ◌+◌, ◌<◌, List, length, get_or, set, sym, ap, ◌∙◌, inl, inr, arith}
use Rattle.std.proofs.lemmas.Bool.{cases_eq}
use Rattle.std.proofs.lemmas.List.{get_or-set_same, get_or-set_other}
use Rattle.std.proofs.lemmas.List.Elements.{Contains-get_or}
use Rattle.ra_list_order.proofs.Cycles.{new_from_once}
use Rattle.ra_precedence.specs.Conditions.{HasEachBelow}
use Rattle.ra_rga_precedence.specs.Ranks.{AreRanks}
use Rattle.ra_rga_precedence.proofs.Places.{distinct, place_of, places_of}

-- holds if the labels at the places below i have their places as ranks, counted from 1
abbrev pub AreRanksBelow : List ℕ → List ℕ → ℕ → Type 0
AreRanksBelow order ranks i = (k : ℕ) → k < i → get_or ranks (get_or order k 0) 0 ≡ k + 1

pub ranks_more : (count : ℕ) (order ranks : List ℕ) (i : ℕ) → HasEachBelow count order → length ranks ≡ count
    → i < length order → AreRanksBelow order ranks i
    → AreRanksBelow order (set ranks (get_or order i 0) (i + 1)) (i + 1)
ranks_more count order ranks i each len within are k below =
    let x = get_or order i 0 in
    let low : x < count = (each.all x).1 (Contains-get_or order i 0 within) in
    elim (cases_eq k i) [
      | inl is ↦
          ap (λ j. get_or (set ranks x (i + 1)) (get_or order j 0) 0) is
          ∙ get_or-set_same ranks x (i + 1) 0 (omega (arith, low, len)) ∙ ap (λ j. j + 1) (sym is)
      | inr other ↦
          get_or-set_other ranks x (get_or order k 0) (i + 1) 0
          (distinct order k i (new_from_once order each.once) (omega (arith, below, other)) within)
          ∙ are k (omega (arith, below, other))
    ]

pub ranks_all : (count : ℕ) (order ranks : List ℕ) → HasEachBelow count order → length ranks ≡ count
    → AreRanksBelow order ranks (length order) → AreRanks count order ranks
ranks_all count order ranks each len are = record {
  len = len;
  within =
      λ n below.
      let (i, at) = place_of order n ((each.all n).0 below) in
      let is = sym (ap (λ x. get_or ranks x 0) at.here) ∙ are i at.within in
      let low = at.within in
      omega (arith, is, low);
  positive =
      λ n below.
      let (i, at) = place_of order n ((each.all n).0 below) in
      let is = sym (ap (λ x. get_or ranks x 0) at.here) ∙ are i at.within in
      omega (arith, is);
  rises =
      λ m n before.
      let (i, j, less, first, second) = places_of order m n before in
      let m_is = sym (ap (λ x. get_or ranks x 0) first.here) ∙ are i first.within in
      let n_is = sym (ap (λ x. get_or ranks x 0) second.here) ∙ are j second.within in
      omega (arith, m_is, n_is, less);
}
