-- Lemmas on the positions of elements in a list.
use Rattle.std.proofs.Common.{◌≡◌, ℕ, zero, suc, ◌+◌, ◌<◌, List, [], ◌∷◌, Option, Some, None, BTreeMap, false, refl, sym, ap, ◌∙◌, subst, inl, inr, arith, length}
use Rattle.std.specs.Prelude.{MatchOption}
use Rattle.std.specs.List.{slice_get}
use Rattle.std.specs.BTreeMap.{get, Updates}
use Rattle.std.specs.Cmp.{Equal-is}
use Rattle.std.specs.Ordering.{nat_cmp, is_eq}
use Rattle.std.proofs.lemmas.Map.Lookups.{exact_unsigned}
use Rattle.std.proofs.lemmas.Bool.{cases_Bool, cases_eq, cases_lt}
use Rattle.std.proofs.lemmas.Option.{none-some, slice_get_within, slice_get_read, get_or_from_slice_get}
use Rattle.ra_labels.specs.Edges.{IsBefore}
use Rattle.ra_explain.specs.declared.spans.Span.{Span}
use Rattle.ra_explain.specs.Spans.{AreSpans, IsAbsent, IsSpan}

pub same_some : {A : Type 0} (x y : A) → Some x ≡ Some y → x ≡ y
same_some x y is = cc

-- what is before something else is at an earlier position
pub positions_of : (xs : List ℕ) (a b : ℕ) → IsBefore xs a b
    → (i : ℕ) × (j : ℕ) × (i < j) × (slice_get xs i ≡ Some a) × (slice_get xs j ≡ Some b)
positions_of [] a b before = absurd before
positions_of (x ∷ xs) a b before = elim before [
  | inl here ↦
      let at = here.1 in
      (zero, suc at.0, omega arith, ap Some here.0, slice_get_read xs (length xs) at.0 b refl at.1 (sym at.2))
  | inr further ↦
      let at = positions_of xs a b further in
      (suc at.0, suc at.1, omega (arith, at.2), at.3, at.4)
]

-- what is at an earlier position is before
pub before_at : (xs : List ℕ) (i j a b : ℕ) → i < j → slice_get xs i ≡ Some a → slice_get xs j ≡ Some b
    → IsBefore xs a b
before_at [] i j a b less left right = absurd (none-some a left)
before_at (x ∷ xs) i zero a b less left right = absurd (omega (arith, less))
before_at (x ∷ xs) zero (suc j) a b less left right =
    inl (same_some x a left, (j, slice_get_within xs j b right, get_or_from_slice_get xs j b b right))
before_at (x ∷ xs) (suc i) (suc j) a b less left right = inr (before_at xs i j a b (omega (arith, less)) left right)

-- ---- the spans of one more position

apart_test : (k q : ℕ) → ¬ (q ≡ k) → is_eq (nat_cmp k q) ≡ false
apart_test k q other = elim (cases_Bool (is_eq (nat_cmp k q))) [
  | inl same ↦ absurd (other (sym (exact_unsigned k q ((Equal-is (nat_cmp k q)).0 same))))
  | inr test ↦ test
]

-- the element at the position has this span
span_here : (list : List ℕ) (n x : ℕ) (span : Span) (found : Option Span) → slice_get list n ≡ Some x
    → MatchOption found (IsAbsent list n x) (IsSpan list n x) → span.last ≡ n
    → MatchOption found (span.first ≡ n) (λ s. span.first ≡ s.first) → IsSpan list (n + 1) x span
span_here list n x span None at absent last first = record {
  first = ap (slice_get list) first ∙ at;
  last = ap (slice_get list) last ∙ at;
  within = omega (arith, last);
  all = λ k below is. elim (cases_lt k n) [
    | inl before ↦ absurd (absent k before is)
    | inr past ↦ (omega (arith, first, past), omega (arith, last, below))
  ];
}
span_here list n x span (Some s) at known last first = record {
  first = ap (slice_get list) first ∙ known.first;
  last = ap (slice_get list) last ∙ at;
  within = omega (arith, last);
  all = λ k below is. elim (cases_lt k n) [
    | inl before ↦ (omega (arith, first, (known.all k before is).0), omega (arith, last, below))
    | inr past ↦
        let least = (known.all s.last known.within known.last).0 in
        (omega (arith, first, least, known.within, past), omega (arith, last, below))
  ];
}

-- any other element keeps its own
span_there : (list : List ℕ) (n x y : ℕ) (found : Option Span) → slice_get list n ≡ Some x → ¬ (y ≡ x)
    → MatchOption found (IsAbsent list n y) (IsSpan list n y)
    → MatchOption found (IsAbsent list (n + 1) y) (IsSpan list (n + 1) y)
span_there list n x y None at other absent = λ k below is. elim (cases_lt k n) [
  | inl before ↦ absent k before is
  | inr past ↦
      let here : n ≡ k = omega (arith, past, below) in
      other (same_some y x (sym is ∙ ap (slice_get list) (sym here) ∙ at))
]
span_there list n x y (Some s) at other known = record {
  first = known.first;
  last = known.last;
  within = omega (arith, known.within);
  all = λ k below is. elim (cases_lt k n) [
    | inl before ↦ known.all k before is
    | inr past ↦
        let here : n ≡ k = omega (arith, past, below) in
        absurd (other (same_some y x (sym is ∙ ap (slice_get list) (sym here) ∙ at)))
  ];
}

pub spans_more : (list : List ℕ) (n : ℕ) (old new : BTreeMap ℕ Span) (x : ℕ) (span : Span)
    → slice_get list n ≡ Some x → AreSpans list n old → span.last ≡ n
    → MatchOption (get nat_cmp old x) (span.first ≡ n) (λ s. span.first ≡ s.first)
    → Updates nat_cmp old new x (Some span) → AreSpans list (n + 1) new
spans_more list n old new x span at known last first updates = λ y. elim (cases_eq y x) [
  | inl same ↦
      let span_is : Some span ≡ get nat_cmp new y = sym updates.1 ∙ ap (get nat_cmp new) (sym same) in
      subst (λ found. MatchOption found (IsAbsent list (n + 1) y) (IsSpan list (n + 1) y)) span_is
      (subst (λ z. IsSpan list (n + 1) z span) (sym same)
      (span_here list n x span (get nat_cmp old x) at (known x) last first))
  | inr other ↦
      let kept : get nat_cmp old y ≡ get nat_cmp new y = sym (updates.2 y (apart_test x y other)) in
      subst (λ found. MatchOption found (IsAbsent list (n + 1) y) (IsSpan list (n + 1) y)) kept
      (span_there list n x y (get nat_cmp old y) at other (known y))
]
