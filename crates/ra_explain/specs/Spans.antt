-- Where a list has its elements.
use Rattle.std.specs.Prelude.{◌≡◌, ℕ, ◌<◌, ◌≤◌, List, Some, MatchOption}
use Rattle.std.specs.List.{slice_get}
use Rattle.std.specs.BTreeMap.{BTreeMap, get}
use Rattle.std.specs.Ordering.{nat_cmp}
use Rattle.ra_explain.specs.declared.spans.Span.{Span}

-- holds if none of the first n positions of the list has the element
abbrev pub IsAbsent : List ℕ → ℕ → ℕ → Type 0
IsAbsent list n x = (k : ℕ) → k < n → ¬ (slice_get list k ≡ Some x)

-- holds if the span has the first and the last of the element's positions, among the first n positions of the list
pub record IsSpan (list : List ℕ) (n x : ℕ) (span : Span) : Type 0 where
  pub first : slice_get list span.first ≡ Some x
  pub last : slice_get list span.last ≡ Some x
  pub within : span.last < n
  pub all : (k : ℕ) → k < n → slice_get list k ≡ Some x → (span.first ≤ k) × (k ≤ span.last)

-- holds if each element of the first n positions has its span, and no other element has one
abbrev pub AreSpans : List ℕ → ℕ → BTreeMap ℕ Span → Type 0
AreSpans list n spans = (x : ℕ) → MatchOption (get nat_cmp spans x) (IsAbsent list n x) (IsSpan list n x)
