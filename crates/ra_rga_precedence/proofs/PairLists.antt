-- Lemmas on the conditions of pairs, pair by pair.
use Rattle.std.proofs.Common.{◌≡◌, ℕ, ◌+◌, ◌<◌, ◌≤◌, List, [], ◌∷◌, ◌++◌, Option, length, get_or, refl, sym, ap, subst, ◌∙◌, inl, inr, arith}
use Rattle.std.specs.Prelude.{◌⊎◌, Contains}
use Rattle.std.proofs.lemmas.Bool.{cases_eq}
use Rattle.std.proofs.lemmas.List.{get_or_append_left, get_or_push, length-append, append_assoc, append-nil}
use Rattle.std.proofs.lemmas.List.Elements.{Contains-push_cases}
use Rattle.ra_labels.proofs.Members.{head_or_behind, none_there}
use Rattle.ra_precedence.specs.Conditions.{Condition, no_condition, condition_at}
use Rattle.ra_rga_precedence.specs.Ranks.{AreNeedRanks}
use Rattle.ra_rga_precedence.specs.Relations.{LeadsTo, AreApart}
use Rattle.ra_rga_precedence.specs.Neighbors.{edge, IsUnderNext}
use Rattle.ra_rga_precedence.specs.Pairs.{IsPair, ArePairs}
use Rattle.ra_rga_precedence.specs.UpdateConditions.{AreBelow, NameBelow}
use Rattle.ra_rga_precedence.proofs.TreeWays.{low_end}

-- holds if the new conditions are the old ones and those of the first pairs
pub record AreFirstPairs (needed : List (Option ℕ)) (labels : List ℕ) (old new : List Condition) (count : ℕ)
    : Type 0 where
  pub pairs : List Condition
  pub are : new ≡ old ++ pairs
  pub len : length pairs ≡ count
  pub each : (i : ℕ) → i < count → (i + 1 < length labels) × IsPair needed labels i (condition_at pairs i)

pub no_pairs : (needed : List (Option ℕ)) (labels : List ℕ) (old : List Condition)
    → AreFirstPairs needed labels old old 0
no_pairs needed labels old = record {
  pairs = [];
  are = sym (append-nil old);
  len = refl;
  each = λ i below. absurd (omega (arith, below));
}

module _ (needed : List (Option ℕ)) (labels : List ℕ) (old new : List Condition) (count : ℕ)
    (first : AreFirstPairs needed labels old new count) where
  pub one_more_pair : (condition : Condition) → count + 1 < length labels → IsPair needed labels count condition
      → AreFirstPairs needed labels old (new ++ condition ∷ []) (count + 1)
  one_more_pair condition within is = record {
    pairs = first.pairs ++ condition ∷ [];
    are = ap (λ cs. cs ++ condition ∷ []) first.are ∙ append_assoc old first.pairs (condition ∷ []);
    len = length-append first.pairs (condition ∷ []) ∙ ap (λ k. k + 1) first.len;
    each =
        λ i below. elim (cases_eq i count) [
          | inl same ↦
              subst (λ k. (k + 1 < length labels) × IsPair needed labels k (condition_at (first.pairs ++ condition ∷ []) k))
              (sym same) (
                within,
                subst (IsPair needed labels count)
                    (sym (get_or_push first.pairs condition no_condition count first.len)) is,
              )
          | inr other ↦
              let len = first.len in
              let (low, older) = first.each i (omega (arith, below, other)) in (
                low,
                subst (IsPair needed labels i)
                    (sym (get_or_append_left first.pairs (condition ∷ []) no_condition i (omega (arith, below, other, len))))
                    older,
              )
        ];
  }

  pub all_pairs : (length labels ≤ count + 1) ⊎ IsUnderNext needed labels count
      → (pairs : List Condition) × (new ≡ old ++ pairs) × ArePairs needed labels pairs
  all_pairs end = (
    first.pairs,
    first.are,
    record {
      each = λ i below. let len = first.len in first.each i (omega (arith, below, len));
      end = subst (λ k. (length labels ≤ k + 1) ⊎ IsUnderNext needed labels k) (sym first.len) end;
    },
  )

-- the conditions of pairs name labels below the bound
module _ (needed : List (Option ℕ)) (ranks : List ℕ) (below : AreBelow (length needed) needed)
    (ranked : AreNeedRanks needed ranks) (old : List Condition) (named : NameBelow (length needed) old) where
  pub named_edge : (first second left right : ℕ) → first < length needed → second < length needed
      → AreApart needed first second left right → NameBelow (length needed) (old ++ edge right left ∷ [])
  named_edge first second left right first_low second_low apart other there b side =
      elim (Contains-push_cases old (edge right left) other there) [
        | inl older ↦ named other older b side
        | inr is ↦ elim (subst (λ (c : Condition). Contains c.before b ⊎ Contains c.after b) (sym is) side) [
          | inl one ↦ elim (head_or_behind right [] b one) [
            | inl same ↦
                subst (λ k. k < length needed) same
                (low_end needed ranks below ranked second right second_low apart.under_right)
            | inr further ↦ absurd (none_there b further)
          ]
          | inr one ↦ elim (head_or_behind left [] b one) [
            | inl same ↦
                subst (λ k. k < length needed) same
                (low_end needed ranks below ranked first left first_low apart.under_left)
            | inr further ↦ absurd (none_there b further)
          ]
        ]
      ]

  pub named_none : NameBelow (length needed) (old ++ no_condition ∷ [])
  named_none other there b side = elim (Contains-push_cases old no_condition other there) [
    | inl older ↦ named other older b side
    | inr is ↦ elim (subst (λ (c : Condition). Contains c.before b ⊎ Contains c.after b) (sym is) side) [
      | inl one ↦ absurd (none_there b one)
      | inr one ↦ absurd (none_there b one)
    ]
  ]
