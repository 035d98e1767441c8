-- Lemmas on the order of stamps, and on the greatest of some stamps.
use Rattle.std.proofs.Common.{◌≡◌, true, false, List, [], ◌∷◌, Option, Some, None, refl, sym, ap, ◌∙◌, subst, inl, inr, arith}
use Rattle.std.specs.Prelude.{◌⊎◌, Contains}
use Rattle.std.specs.Option.{option_map_or}
use Rattle.std.specs.Ordering.{is_lt}
use Rattle.std.proofs.lemmas.Bool.{true≢false, cases_lt, cases_order, cond-false, cond_both, false_from_ne_true}
use Rattle.ra_labels.specs.declared.label.Stamp.{Stamp}
use Rattle.ra_labels.specs.declared.label.Label.{Label}
use Rattle.ra_labels.specs.NamedOrder.{lowest_rank, stamp_cmp, greater_of, greatest_stamp}
use Rattle.ra_labels.specs.TheoremTerms.{IsStampBelow}
use Rattle.ra_labels.proofs.StampOrder.{below_tested}
use Rattle.ra_labels.proofs.Members.{head_or_behind, behind_head}
use Rattle.ra_theorems.proofs.TheoremIndex.{stamp_order_lexicographic-less}
use Rattle.ra_time_order.specs.Stamps.{AtMost}

pub below_to : (s t : Stamp) → IsStampBelow s t → is_lt (stamp_cmp s t) ≡ true
below_to s t below = ap is_lt ((stamp_order_lexicographic-less s t).1 below)

pub at_most_itself : (s : Stamp) → AtMost s s
at_most_itself s = record { is = inr (refl, omega arith) }

pub at_most_through : (r s t : Stamp) → AtMost r s → AtMost s t → AtMost r t
at_most_through r s t first then = elim (first.is) [
  | inl less ↦ elim (then.is) [
    | inl less_too ↦ record { is = inl (omega arith) }
    | inr tie ↦ record { is = inl (omega (arith, tie.0)) }
  ]
  | inr tie ↦ elim (then.is) [
    | inl less ↦ record { is = inl (omega (arith, tie.0)) }
    | inr tie_too ↦ record { is = inr (tie.0 ∙ tie_too.0, omega (arith, tie.1, tie_too.1)) }
  ]
]

pub lowest_at_most : (s : Stamp) → AtMost lowest_rank s
lowest_at_most s = elim (cases_order 0 s.clock) [
  | inl zero_clock ↦ record { is = inr (zero_clock, omega arith) }
  | inr (inl some) ↦ record { is = inl some }
  | inr (inr none) ↦ absurd (omega arith)
]

pub same_stamp : (s t : Stamp) → AtMost s t → AtMost t s → s ≡ t
same_stamp s t there back = elim (there.is) [
  | inl less ↦ elim (back.is) [
    | inl more ↦ absurd (omega arith)
    | inr tie ↦ absurd (omega (arith, tie.0))
  ]
  | inr tie ↦ elim (back.is) [
    | inl more ↦ absurd (omega (arith, tie.0))
    | inr tie_too ↦
        let replica : s.replica ≡ t.replica = omega (arith, tie.1, tie_too.1) in
        λ i. record { clock = tie.0 i; replica = replica i }
  ]
]

-- s is not below t if t is at most s
pub not_below : (s t : Stamp) → AtMost t s → is_lt (stamp_cmp s t) ≡ false
not_below s t most = false_from_ne_true (is_lt (stamp_cmp s t)) (λ less. elim (most.is) [
  | inl more ↦ elim (below_tested s t less) [
    | inl under ↦ omega arith
    | inr tie ↦ omega (arith, tie.0)
  ]
  | inr equal ↦ elim (below_tested s t less) [
    | inl under ↦ omega (arith, equal.0)
    | inr tie ↦ omega (arith, tie.1, equal.1)
  ]
])

pub at_most_from : (s t : Stamp) → is_lt (stamp_cmp s t) ≡ false → AtMost t s
at_most_from s t not_less = elim (cases_order t.clock s.clock) [
  | inl same ↦ elim (cases_lt s.replica t.replica) [
    | inl under ↦ absurd (true≢false (sym (below_to s t (inr (sym same, under))) ∙ not_less))
    | inr over ↦ record { is = inr (same, over) }
  ]
  | inr (inl less) ↦ record { is = inl less }
  | inr (inr more) ↦ absurd (true≢false (sym (below_to s t (inl more)) ∙ not_less))
]

pub at_most_below : (s t : Stamp) → is_lt (stamp_cmp s t) ≡ true → AtMost s t
at_most_below s t less = elim (below_tested s t less) [
  | inl under ↦ record { is = inl under }
  | inr tie ↦ record { is = inr (tie.0, omega (arith, tie.1)) }
]

-- the greatest of the own stamps of these labels, or the lowest rank
pub record IsGreatestOf (labels : List Label) (s : Stamp) : Type 0 where
  pub above : (l : Label) (t : Stamp) → Contains labels l → l.stamp ≡ Some t → AtMost t s
  pub own : (s ≡ lowest_rank) ⊎ ((l : Label) × Contains labels l × (l.stamp ≡ Some s))

no_greater : (labels : List Label) (s t : Stamp) → IsGreatestOf labels s → IsGreatestOf labels t → AtMost s t
no_greater labels s t is_s is_t = elim (is_s.own) [
  | inl lowest ↦ subst (λ r. AtMost r t) (sym lowest) (lowest_at_most t)
  | inr found ↦ is_t.above found.0 s found.1 found.2
]

-- there is only one such stamp
pub one_greatest : (labels : List Label) (s t : Stamp) → IsGreatestOf labels s → IsGreatestOf labels t → s ≡ t
one_greatest labels s t is_s is_t = same_stamp s t (no_greater labels s t is_s is_t) (no_greater labels t s is_t is_s)

-- the greater of two stamps is at least each of them
pub greater_above : (s t : Stamp) → AtMost s (greater_of s t) × AtMost t (greater_of s t)
greater_above s t =
    cond_both (is_lt (stamp_cmp s t)) t s (λ r. AtMost s r × AtMost t r)
    (λ less. (at_most_below s t less, at_most_itself t))
    (λ not_less. (at_most_itself s, at_most_from s t not_less))

-- and is one of them
pub greater_is_one : (s t : Stamp) → (greater_of s t ≡ s) ⊎ (greater_of s t ≡ t)
greater_is_one s t =
    cond_both (is_lt (stamp_cmp s t)) t s (λ r. (r ≡ s) ⊎ (r ≡ t)) (λ _. inr refl) (λ _. inl refl)

pub greater_lowest : (s : Stamp) → greater_of s lowest_rank ≡ s
greater_lowest s =
    cond-false (is_lt (stamp_cmp s lowest_rank)) lowest_rank s (not_below s lowest_rank (lowest_at_most s))

own_behind : (x : Label) (xs : List Label) (s : Stamp)
    → (s ≡ lowest_rank) ⊎ ((l : Label) × Contains xs l × (l.stamp ≡ Some s))
    → (s ≡ lowest_rank) ⊎ ((l : Label) × Contains (x ∷ xs) l × (l.stamp ≡ Some s))
own_behind x xs s (inl lowest) = inl lowest
own_behind x xs s (inr found) = inr (found.0, behind_head x xs found.0 found.1, found.2)

greatest_with : (label : Label) (labels : List Label) (own : Option Stamp) → own ≡ label.stamp
    → IsGreatestOf labels (greatest_stamp labels)
    → IsGreatestOf (label ∷ labels) (option_map_or (greater_of (greatest_stamp labels)) own (greatest_stamp labels))
greatest_with label labels None is older = record {
  above = λ l t found stamped. elim (head_or_behind label labels l found) [
    | inl here ↦ absurd (cc (is, stamped, ap (λ (m : Label). m.stamp) here))
    | inr further ↦ older.above l t further stamped
  ];
  own = own_behind label labels (greatest_stamp labels) older.own;
}
greatest_with label labels (Some stamp) is older =
    let before = greatest_stamp labels in
    let above = greater_above before stamp in
    record {
      above = λ l t found stamped. elim (head_or_behind label labels l found) [
        | inl here ↦
            let same : stamp ≡ t = cc (is, stamped, ap (λ (m : Label). m.stamp) here) in
            subst (λ r. AtMost r (greater_of before stamp)) same above.1
        | inr further ↦ at_most_through t before (greater_of before stamp) (older.above l t further stamped) above.0
      ];
      own = elim (greater_is_one before stamp) [
        | inl older_one ↦
            subst (λ r. (r ≡ lowest_rank) ⊎ ((l : Label) × Contains (label ∷ labels) l × (l.stamp ≡ Some r)))
            (sym older_one) (own_behind label labels before older.own)
        | inr newer ↦ inr (label, (0, omega arith, refl), sym is ∙ ap Some (sym newer))
      ];
    }

pub greatest_of : (labels : List Label) → IsGreatestOf labels (greatest_stamp labels)
greatest_of [] = record { above = λ l t found is. absurd (omega (arith, found.1)); own = inl refl }
greatest_of (label ∷ labels) = greatest_with label labels label.stamp refl (greatest_of labels)
