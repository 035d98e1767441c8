-- Lemmas on the counts up to the last one that is not 0.
use Rattle.std.proofs.Common.{◌≡◌, ℕ, zero, suc, ◌+◌, ◌<◌, List, [], ◌∷◌, length, get_or, take, refl, sym, ap, ◌∙◌, subst, inl, inr, arith}
use Rattle.std.specs.Prelude.{◌≤◌, ◌≢◌}
use Rattle.std.proofs.lemmas.Bool.{cases_lt}
use Rattle.std.proofs.lemmas.List.{length-take-le, get_or-take}
use Rattle.ra_any_reads.specs.Counts.{HaveSameCounts, IsTrimmed}
use Rattle.ra_any_reads.proofs.EqualCounts.{past_end}

-- holds if all counts from `end` on are 0, and the one before is not
pub record EndsAt (counts : List ℕ) (checked end : ℕ) : Type 0 where
  pub within : end ≤ checked
  pub zeros : (i : ℕ) → end ≤ i → i < checked → get_or counts i 0 ≡ 0
  pub last : (i : ℕ) → end ≡ i + 1 → get_or counts i 0 ≢ 0

pub none_checked : (counts : List ℕ) → EndsAt counts 0 0
none_checked counts = record {
  within = omega arith;
  zeros = λ i from below. absurd (omega (arith, below));
  last = λ i is. absurd (omega (arith, is));
}

pub one_more : (counts : List ℕ) (index end : ℕ) → ¬ (get_or counts index 0 ≡ 0) → EndsAt counts (index + 1) (index + 1)
one_more counts index end more = record {
  within = omega arith;
  zeros = λ i from below. absurd (omega (arith, from, below));
  last = λ i is zero_there. more (ap (λ k. get_or counts k 0) (omega (arith, is)) ∙ zero_there);
}

pub no_more : (counts : List ℕ) (index end : ℕ) → EndsAt counts index end → get_or counts index 0 ≡ 0
    → EndsAt counts (index + 1) end
no_more counts index end ends none = record {
  within = omega (arith, ends.within);
  zeros = λ i from below. elim (cases_lt i index) [
    | inl less ↦ ends.zeros i from less
    | inr no_less ↦ ap (λ k. get_or counts k 0) (omega (arith, no_less, below)) ∙ none
  ];
  last = ends.last;
}

pub trimmed-same : (counts : List ℕ) (end : ℕ) → EndsAt counts (length counts) end → HaveSameCounts (take end counts) counts
trimmed-same counts end ends i = elim (cases_lt i end) [
  | inl below ↦ get_or-take end counts i 0 below
  | inr past ↦
      let long : length (take end counts) ≡ end = length-take-le end counts ends.within in
      past_end (take end counts) i (omega (arith, long, past))
      ∙ sym (elim (cases_lt i (length counts)) [
        | inl within ↦ ends.zeros i (omega (arith, past)) within
        | inr beyond ↦ past_end counts i (omega (arith, beyond))
      ])
]

pub trimmed-ends : (counts : List ℕ) (end : ℕ) → EndsAt counts (length counts) end → IsTrimmed (take end counts)
trimmed-ends counts end ends last is zero_there =
    let long : length (take end counts) ≡ end = length-take-le end counts ends.within in
    ends.last last (omega (arith, long, is))
    (sym (get_or-take end counts last 0 (omega (arith, long, is))) ∙ zero_there)
