-- Lemmas on the last member of a set in an order that has each label once.
use Rattle.std.proofs.Common.{◌≡◌, ℕ, List, ◌∷◌, sym, subst, inl, inr, refl}
use Rattle.std.specs.Prelude.{Contains}
use Rattle.std.proofs.lemmas.Bool.{cases_eq}
use Rattle.std.proofs.lemmas.List.Elements.{Contains-append_cases}
use Rattle.ra_labels.specs.Edges.{EachOnce, IsBefore}
use Rattle.ra_labels.proofs.Members.{head_or_behind, at_head}
use Rattle.ra_precedence.specs.Lasts.{IsLastOf}
use Rattle.ra_precedence.proofs.Steps.{before_seam}
use Rattle.ra_some_order.proofs.StuckSets.{none_or_last, HasLastMember}
use Rattle.ra_some_order.proofs.VisibleValues.{before_behind}

module _ (order set : List ℕ) (once : EachOnce order) (there : (m : ℕ) → Contains set m → Contains order m) where
  pub is_last : (found : HasLastMember set order) → IsLastOf order set found.last
  is_last found = record {
    member = found.is;
    last =
        λ m among other. subst (λ xs. IsBefore xs m found.last) (sym found.split)
        (elim (Contains-append_cases found.front (found.last ∷ found.back) m
        (subst (λ xs. Contains xs m) found.split (there m among))) [
          | inl first ↦
              before_seam found.front (found.last ∷ found.back) m found.last first
              (at_head found.last found.back found.last refl)
          | inr rest ↦ elim (head_or_behind found.last found.back m rest) [
            | inl here ↦ absurd (other (sym here))
            | inr behind ↦ absurd (found.none m behind among)
          ]
        ]);
  }

  pub none_behind : (found : HasLastMember set order) (c : ℕ) → Contains set c → ¬ IsBefore order found.last c
  none_behind found c among stands =
      found.none c (before_behind found.front found.back found.last c (subst EachOnce found.split once)
      (subst (λ xs. IsBefore xs found.last c) found.split stands)) among

  -- there is only one
  pub same_last : (found : HasLastMember set order) (w : ℕ) → IsLastOf order set w → found.last ≡ w
  same_last found w is = elim (cases_eq found.last w) [
    | inl same ↦ same
    | inr other ↦ absurd (none_behind found w is.member (is.last found.last found.is other))
  ]

  pub find_last : (m : ℕ) → Contains set m → HasLastMember set order
  find_last m among = elim (none_or_last set order) [
    | inl none ↦ absurd (none m (there m among) among)
    | inr found ↦ found
  ]
