-- Lemmas on pairs of elements that two lists have in different orders.
use Rattle.std.proofs.Common.{◌≡◌, ℕ, ◌+◌, ◌<◌, ◌≤◌, List, Some, sym, ap, ◌∙◌, inl, inr, arith, length}
use Rattle.std.specs.Prelude.{◌⊎◌}
use Rattle.std.specs.List.{slice_get}
use Rattle.std.proofs.lemmas.Bool.{cases_lt}
use Rattle.std.proofs.lemmas.Option.{slice_get_within}
use Rattle.ra_labels.specs.Edges.{IsBefore}
use Rattle.ra_explain.specs.declared.spans.Span.{Span}
use Rattle.ra_explain.specs.Agreement.{Disagree, NeverDisagree}
use Rattle.ra_explain.specs.Spans.{IsAbsent, IsSpan}
use Rattle.ra_explain.proofs.Positions.{before_at, positions_of, same_some}

-- Of the first n elements of a list, none is behind this position in the other list, and two of them are never the other
-- way round there. The element is one of the first n, and at the position in the other list, unless that is 0.
pub record AreScanned (list other : List ℕ) (n latest last : ℕ) : Type 0 where
  pub found : (last ≡ 0) ⊎ ((i : ℕ) × (i < n) × (slice_get list i ≡ Some latest)
      × (slice_get other last ≡ Some latest))
  pub most : (i p a : ℕ) → i < n → slice_get list i ≡ Some a → slice_get other p ≡ Some a → p ≤ last
  pub apart : (i j a b : ℕ) → i < j → j < n → slice_get list i ≡ Some a → slice_get list j ≡ Some b
      → ¬ IsBefore other b a

-- a further element that the other list does not have
pub absent_next : (list other : List ℕ) (n latest last x : ℕ) → AreScanned list other n latest last
    → slice_get list n ≡ Some x → IsAbsent other (length other) x → AreScanned list other (n + 1) latest last
absent_next list other n latest last x so_far at absent = record {
  found = elim so_far.found [
    | inl none ↦ inl none
    | inr some ↦ inr (some.0, omega (arith, some.1), some.2, some.3)
  ];
  most = λ i p a below left right. elim (cases_lt i n) [
    | inl before ↦ so_far.most i p a before left right
    | inr past ↦
        let here : i ≡ n = omega (arith, below, past) in
        let same : a ≡ x = same_some a x (sym left ∙ ap (slice_get list) here ∙ at) in
        absurd (absent p (slice_get_within other p a right) (right ∙ ap Some same))
  ];
  apart = λ i j a b less below left right before. elim (cases_lt j n) [
    | inl earlier ↦ so_far.apart i j a b less earlier left right before
    | inr past ↦
        let here : j ≡ n = omega (arith, below, past) in
        let same : b ≡ x = same_some b x (sym right ∙ ap (slice_get list) here ∙ at) in
        let there = positions_of other b a before in
        absent there.0 (slice_get_within other there.0 b there.3) (there.3 ∙ ap Some same)
  ];
}

-- a further element that is nowhere in the other list before the position
pub behind_next : (list other : List ℕ) (n latest last x : ℕ) (span : Span) → AreScanned list other n latest last
    → slice_get list n ≡ Some x → IsSpan other (length other) x span → last ≤ span.first
    → AreScanned list other (n + 1) x span.last
behind_next list other n latest last x span so_far at is_span behind =
    let least = (is_span.all span.last is_span.within is_span.last).0 in
    record {
      found = inr (n, omega arith, at, is_span.last);
      most = λ i p a below left right. elim (cases_lt i n) [
        | inl before ↦ omega (arith, so_far.most i p a before left right, behind, least)
        | inr past ↦
            let here : i ≡ n = omega (arith, below, past) in
            let same : a ≡ x = same_some a x (sym left ∙ ap (slice_get list) here ∙ at) in
            (is_span.all p (slice_get_within other p a right) (right ∙ ap Some same)).1
      ];
      apart = λ i j a b less below left right before. elim (cases_lt j n) [
        | inl earlier ↦ so_far.apart i j a b less earlier left right before
        | inr past ↦
            let here : j ≡ n = omega (arith, below, past) in
            let same : b ≡ x = same_some b x (sym right ∙ ap (slice_get list) here ∙ at) in
            let there = positions_of other b a before in
            let first = (is_span.all there.0 (slice_get_within other there.0 b there.3) (there.3 ∙ ap Some same)).0 in
            let most = so_far.most i there.1 a (omega (arith, less, here)) left there.4 in
            omega (arith, there.2, first, most, behind)
      ];
    }

-- a further element that is in the other list before the position
pub reversed_here : (list other : List ℕ) (n latest last x : ℕ) (span : Span) → AreScanned list other n latest last
    → slice_get list n ≡ Some x → IsSpan other (length other) x span → span.first < last
    → Disagree list other latest x
reversed_here list other n latest last x span so_far at is_span less = elim so_far.found [
  | inl none ↦ absurd (omega (arith, none, less))
  | inr some ↦ (
    before_at list some.0 n latest x some.1 some.2 at,
    before_at other span.first last x latest less is_span.first some.3,
  )
]

-- at the end
pub all_scanned : (list other : List ℕ) (latest last : ℕ) → AreScanned list other (length list) latest last
    → NeverDisagree list other
all_scanned list other latest last scanned a b both =
    let at = positions_of list a b both.0 in
    scanned.apart at.0 at.1 a b at.2 (slice_get_within list at.1 b at.4) at.3 at.4 both.1
