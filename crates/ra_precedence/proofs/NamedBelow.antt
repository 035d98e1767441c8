-- The labels that conditions name are below a count.
use Rattle.std.proofs.Common.{◌≡◌, ℕ, ◌+◌, ◌<◌, List, length, get_or, take, sym, subst, inl, inr, arith}
use Rattle.std.specs.Prelude.{Contains}
use Rattle.std.proofs.lemmas.Bool.{cases_eq}
use Rattle.std.proofs.lemmas.List.{get_or-take, length-take-le}
use Rattle.ra_precedence.specs.Conditions.{Condition, no_condition, condition_at, NameOnlyBelow}
use Rattle.ra_precedence.proofs.Using.{in_more}

-- one more label is below the count
pub below_more : (labels : List ℕ) (count i : ℕ) → i < length labels → get_or labels i 0 < count
    → ((b : ℕ) → Contains (take i labels) b → b < count) → (b : ℕ) → Contains (take (i + 1) labels) b → b < count
below_more labels count i within low so_far b there = elim (in_more labels i b within there) [
  | inl before ↦ so_far b before
  | inr last ↦ subst (λ b. b < count) last low
]

-- and one more condition names only such labels
module _ (conditions : List Condition) (count k : ℕ) (within : k < length conditions)
    (so_far : NameOnlyBelow count (take k conditions)) where
  long : length (take k conditions) ≡ k
  long = length-take-le k conditions (omega (arith, within))

  more_long : length (take (k + 1) conditions) ≡ k + 1
  more_long = length-take-le (k + 1) conditions (omega (arith, within))

  -- a condition is an earlier one or the last one
  module _ (side : Condition → List ℕ)
      (earlier : (i b : ℕ) → i < length (take k conditions) → Contains (side (condition_at (take k conditions) i)) b → b < count)
      (last : (b : ℕ) → Contains (side (condition_at conditions k)) b → b < count) where
    side_more : (i b : ℕ) → i < length (take (k + 1) conditions)
        → Contains (side (condition_at (take (k + 1) conditions) i)) b → b < count
    side_more i b low there =
        let here = subst (λ (h : Condition). Contains (side h) b)
        (get_or-take (k + 1) conditions i no_condition (omega (arith, low, more_long))) there in
        elim (cases_eq i k) [
          | inl same ↦ last b (subst (λ j. Contains (side (condition_at conditions j)) b) same here)
          | inr other ↦
              let before : i < k = omega (arith, low, more_long, other) in
              earlier i b (omega (arith, before, long))
              (subst (λ (h : Condition). Contains (side h) b) (sym (get_or-take k conditions i no_condition before)) here)
        ]

  pub named_more : ((b : ℕ) → Contains (condition_at conditions k).before b → b < count)
      → ((b : ℕ) → Contains (condition_at conditions k).after b → b < count) → NameOnlyBelow count (take (k + 1) conditions)
  named_more before after = record {
    before = side_more (λ (h : Condition). h.before) so_far.before before;
    after = side_more (λ (h : Condition). h.after) so_far.after after;
  }
