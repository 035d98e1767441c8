-- Lemmas on the order of stamps: by clock, and for equal clocks by replica.
use Rattle.std.proofs.Common.{◌≡◌, ℕ, ◌<◌, ◌≤◌, true, false, refl, sym, ap, ◌∙◌, inl, inr, arith, Ordering}
use Rattle.std.specs.Prelude.{◌↔◌, ◌⊎◌}
use Rattle.std.specs.Ordering.{MatchOrdering, nat_cmp, is_lt, ordering_then}
use Rattle.std.specs.declared.cmp.Ordering.TheVariants.{Less, Equal, Greater}
use Rattle.std.specs.Cmp.{IsTotalOrder}
use Rattle.std.proofs.lemmas.Bool.{true≢false, cases_eq}
use Rattle.std.proofs.lemmas.Cmp.{ranked, on_total, then_total, nat_cmp_total}
use Rattle.ra_labels.specs.declared.label.Stamp.{Stamp}
use Rattle.ra_labels.specs.NamedOrder.{lowest_rank, stamp_cmp}
use Rattle.ra_labels.specs.TheoremTerms.{IsStampBelow}

pub stamp_cmp-total : IsTotalOrder stamp_cmp
stamp_cmp-total = then_total (on_total (λ (s : Stamp). s.clock) nat_cmp_total) (on_total (λ (s : Stamp). s.replica) nat_cmp_total)

-- of two comparisons in sequence the first decides, and the second decides a tie
pub ranked_less : (m n j k : ℕ) (o p : Ordering) → MatchOrdering o (m < n) (m ≡ n) (n < m) → MatchOrdering p (j < k) (j ≡ k) (k < j) → (ordering_then o p ≡ Less) ↔ ((m < n) ⊎ ((m ≡ n) × (j < k)))
ranked_less m n j k Less p first second = (λ is. inl first, λ below. refl)
ranked_less m n j k Equal Less first second = (λ is. inr (first, second), λ below. refl)
ranked_less m n j k Equal Equal first second = (λ is. absurd (cc is), λ below. absurd (omega arith))
ranked_less m n j k Equal Greater first second = (λ is. absurd (cc is), λ below. absurd (omega arith))
ranked_less m n j k Greater p first second = (λ is. absurd (cc is), λ below. absurd (omega arith))

pub ranked_same : (m n j k : ℕ) (o p : Ordering) → MatchOrdering o (m < n) (m ≡ n) (n < m) → MatchOrdering p (j < k) (j ≡ k) (k < j) → (ordering_then o p ≡ Equal) ↔ ((m ≡ n) × (j ≡ k))
ranked_same m n j k Less p first second = (λ is. absurd (cc is), λ same. absurd (omega arith))
ranked_same m n j k Equal Less first second = (λ is. absurd (cc is), λ same. absurd (omega arith))
ranked_same m n j k Equal Equal first second = (λ is. (first, second), λ same. refl)
ranked_same m n j k Equal Greater first second = (λ is. absurd (cc is), λ same. absurd (omega arith))
ranked_same m n j k Greater p first second = (λ is. absurd (cc is), λ same. absurd (omega arith))

-- stamps are ordered by clock, and for equal clocks by replica
pub stamp_below : (s t : Stamp) → (stamp_cmp s t ≡ Less) ↔ IsStampBelow s t
stamp_below s t =
    ranked_less s.clock t.clock s.replica t.replica (nat_cmp s.clock t.clock) (nat_cmp s.replica t.replica)
    (ranked s.clock t.clock _ refl) (ranked s.replica t.replica _ refl)

pub stamp_same : (s t : Stamp) → (stamp_cmp s t ≡ Equal) ↔ (s ≡ t)
stamp_same s t =
    let both = ranked_same s.clock t.clock s.replica t.replica (nat_cmp s.clock t.clock) (nat_cmp s.replica t.replica) (ranked s.clock t.clock _ refl) (ranked s.replica t.replica _ refl) in (
      (λ tie. let fields = both.0 tie in λ i. record { clock = fields.0 i; replica = fields.1 i }),
      (λ same. both.1 (ap (λ (r : Stamp). r.clock) same, ap (λ (r : Stamp). r.replica) same)),
    )

-- the lowest rank is below each stamp whose clock is at least 1
pub lowest_below : (s : Stamp) → 1 ≤ s.clock → IsStampBelow lowest_rank s
lowest_below s from_one = inl from_one

pub is_less : (o : Ordering) → is_lt o ≡ true → o ≡ Less
is_less Less is = refl
is_less Equal is = absurd (true≢false (sym is))
is_less Greater is = absurd (true≢false (sym is))

-- the test by `stamp_cmp` decides `IsStampBelow`
pub below_tested : (s t : Stamp) → is_lt (stamp_cmp s t) ≡ true → IsStampBelow s t
below_tested s t is = (stamp_below s t).0 (is_less (stamp_cmp s t) is)

pub not_below_tested : (s t : Stamp) → is_lt (stamp_cmp s t) ≡ false → ¬ IsStampBelow s t
not_below_tested s t is below = true≢false (sym (ap is_lt ((stamp_below s t).1 below)) ∙ is)

pub below_below : (s t u : Stamp) → IsStampBelow s t → IsStampBelow t u → IsStampBelow s u
below_below s t u (inl a) (inl b) = inl (omega arith)
below_below s t u (inl a) (inr b) = inl (omega (arith, b.0))
below_below s t u (inr a) (inl b) = inl (omega (arith, a.0))
below_below s t u (inr a) (inr b) = inr (a.0 ∙ b.0, omega (arith, a.1, b.1))

pub not_below_itself : (s t : Stamp) → s ≡ t → ¬ IsStampBelow s t
not_below_itself s t same (inl a) = let c : s.clock ≡ t.clock = ap (λ (x : Stamp). x.clock) same in omega (arith, a, c)
not_below_itself s t same (inr a) = let c : s.replica ≡ t.replica = ap (λ (x : Stamp). x.replica) same in omega (arith, a.1, c)

pub not_both_below : (s t : Stamp) → IsStampBelow s t → ¬ IsStampBelow t s
not_both_below s t one other = not_below_itself s s refl (below_below s t s one other)

-- of two different stamps one is below the other
same_stamp : (s t : Stamp) → s.clock ≡ t.clock → s.replica ≡ t.replica → s ≡ t
same_stamp s t a b = λ i. record { clock = a i; replica = b i }

below_number : (m n : ℕ) → ¬ (n < m) → ¬ (m ≡ n) → m < n
below_number m n not_less differ = omega (arith, not_less, differ)

pub below_else : (s t : Stamp) → ¬ IsStampBelow s t → ¬ (s ≡ t) → IsStampBelow t s
below_else s t not_below differ = by_clock (cases_eq s.clock t.clock)
  where
    by_replica : s.clock ≡ t.clock → (s.replica ≡ t.replica) ⊎ (s.replica ≡ t.replica → ⊥) → IsStampBelow t s
    by_replica c (inl r) = absurd (differ (same_stamp s t c r))
    by_replica c (inr r) = inr (sym c, below_number t.replica s.replica (λ h. not_below (inr (c, h))) (λ e. r (sym e)))

    by_clock : (s.clock ≡ t.clock) ⊎ (s.clock ≡ t.clock → ⊥) → IsStampBelow t s
    by_clock (inl c) = by_replica c (cases_eq s.replica t.replica)
    by_clock (inr c) = inl (below_number t.clock s.clock (λ h. not_below (inl h)) (λ e. c (sym e)))

pub same_else : (s t : Stamp) → ¬ IsStampBelow s t → ¬ IsStampBelow t s → s ≡ t
same_else s t one other = elim (cases_eq s.clock t.clock) [
  | inl c ↦ elim (cases_eq s.replica t.replica) [
    | inl r ↦ same_stamp s t c r
    | inr r ↦ absurd (other (below_else s t one (λ is. r (ap (λ (x : Stamp). x.replica) is))))
  ]
  | inr c ↦ absurd (other (below_else s t one (λ is. c (ap (λ (x : Stamp). x.clock) is))))
]
