-- Lemmas on the entries of a map whose keys are vectors that do not end in 0.
use Rattle.std.proofs.Common.{◌≡◌, ◌↔◌, ℕ, ◌+◌, Bool, true, false, List, [], ◌∷◌, length, get_or, cond, Option, Some, None, Ordering, refl, sym, ap, ◌∙◌, subst, inl, inr, arith}
use Rattle.std.specs.Prelude.{All}
use Rattle.std.specs.Ordering.{is_eq, nat_cmp, match_ordering}
use Rattle.std.specs.declared.cmp.Ordering.TheVariants.{Less, Equal, Greater}
use Rattle.std.specs.Cmp.{Equal-is}
use Rattle.std.specs.Cmp.Lexicographic.{slice_cmp}
use Rattle.std.specs.Map.{lookup}
use Rattle.std.specs.BTreeMap.{is_at, insert_entry}
use Rattle.std.proofs.lemmas.Bool.{false≢true, cases_Bool, cond-true, cond-false}
use Rattle.std.proofs.lemmas.Option.{none-some}
use Rattle.std.proofs.lemmas.List.Elements.{All-head, All-tail, All-cons, All-nil}
use Rattle.std.proofs.lemmas.Map.Lookups.{exact_bytes}
use Rattle.ra_labels.proofs.InLists.{bool_same}
use Rattle.ra_any_reads.specs.declared.first.First.{First}
use Rattle.ra_any_reads.specs.Counts.{have_same_counts, HaveSameCounts, IsTrimmed}
use Rattle.ra_any_reads.specs.Firsts.{first_in, entries_of, AllTrimmed}
use Rattle.ra_any_reads.proofs.EqualCounts.{same_exactly, same_as_other, equal_as_same}

-- vectors with the same counts find the same read
pub first-same : (entries : List (List ℕ × First)) (xs ys : List ℕ) → HaveSameCounts xs ys
    → first_in entries xs ≡ first_in entries ys
first-same [] xs ys same = refl
first-same (entry ∷ entries) xs ys same =
    ap (λ b. cond b (Some entry.1) (first_in entries xs)) (same_as_other xs ys entry.0 same)
    ∙ ap (cond (have_same_counts ys entry.0) (Some entry.1)) (first-same entries xs ys same)

-- what is known of the entries with one more
pub record AddsRead (counts : List ℕ) (first : First) (old new : List (List ℕ × First)) : Type 0 where
  pub finds : (other : List ℕ) → first_in new other
      ≡ cond (have_same_counts other counts) (Some first) (first_in old other)
  pub one_more : length new ≡ length old + 1
  pub trimmed : AllTrimmed new

-- it is so for all vectors with the same counts
by_counts : (key counts : List ℕ) (first : First) (old new : List (List ℕ × First)) → HaveSameCounts key counts
    → AddsRead key first old new → AddsRead counts first old new
by_counts key counts first old new same adds = record {
  finds = λ other. adds.finds other ∙ ap (λ b. cond b (Some first) (first_in old other))
      (bool_same (have_same_counts other key) (have_same_counts other counts)
      (λ is. (same_exactly other counts).1 (λ i. (same_exactly other key).0 is i ∙ same i))
      (λ is. (same_exactly other key).1 (λ i. (same_exactly other counts).0 is i ∙ sym (same i))));
  one_more = adds.one_more;
  trimmed = adds.trimmed;
}

module _ {K : Type 0} (counts_of : K → List ℕ) where
  abbrev key_cmp : K → K → Ordering
  key_cmp x y = slice_cmp nat_cmp (counts_of x) (counts_of y)

  -- a lookup in the map finds the read
  pub looked_up : (entries : List (K × First)) (counts key : List ℕ) → AllTrimmed (entries_of entries counts_of)
      → IsTrimmed key → HaveSameCounts key counts
      → lookup (is_at (λ k. slice_cmp nat_cmp key (counts_of k))) entries ≡ first_in (entries_of entries counts_of) counts
  looked_up [] counts key all trimmed same = refl
  looked_up (entry ∷ entries) counts key all trimmed same =
      let trim = λ (e : List ℕ × First). IsTrimmed e.0 in
      let head = All-head trim (counts_of entry.0, entry.1) (entries_of entries counts_of) all in
      let tail = All-tail trim (counts_of entry.0, entry.1) (entries_of entries counts_of) all in
      ap (λ b. cond b (Some entry.1) (lookup (is_at (λ k. slice_cmp nat_cmp key (counts_of k))) entries))
      (equal_as_same counts key (counts_of entry.0) trimmed head same)
      ∙ ap (cond (have_same_counts counts (counts_of entry.0)) (Some entry.1))
      (looked_up entries counts key tail trimmed same)

  -- the entries with one more
  abbrev with_entry : List (K × First) → K → First → List (List ℕ × First)
  with_entry entries key first = entries_of (insert_entry key_cmp entries key first) counts_of

  abbrev IsAdded : K → First → List (List ℕ × First) → List (List ℕ × First) → Type 0
  IsAdded key first old new = AddsRead (counts_of key) first old new

  -- an entry with other counts that is found first changes nothing
  turned : (other mine its : List ℕ) (first second : First) (rest : Option First) → have_same_counts mine its ≡ false
      → cond (have_same_counts other its) (Some second) (cond (have_same_counts other mine) (Some first) rest)
      ≡ cond (have_same_counts other mine) (Some first) (cond (have_same_counts other its) (Some second) rest)
  turned other mine its first second rest apart = elim (cases_Bool (have_same_counts other mine)) [
    | inl is ↦
        let differs : have_same_counts other its ≡ false =
        same_as_other other mine its ((same_exactly other mine).0 is) ∙ apart in
        cond-false (have_same_counts other its) (Some second) (cond (have_same_counts other mine) (Some first) rest) differs
        ∙ cond-true (have_same_counts other mine) (Some first) rest is
        ∙ sym (cond-true (have_same_counts other mine) (Some first) (cond (have_same_counts other its) (Some second) rest) is)
    | inr differ ↦
        ap (cond (have_same_counts other its) (Some second)) (cond-false (have_same_counts other mine) (Some first) rest differ)
        ∙ sym (cond-false (have_same_counts other mine) (Some first) (cond (have_same_counts other its) (Some second) rest) differ)
  ]

  added_at : (entries : List (K × First)) (entry : K × First) (key : K) (first : First) (o : Ordering)
      → key_cmp key entry.0 ≡ o → AllTrimmed (entries_of (entry ∷ entries) counts_of) → IsTrimmed (counts_of key)
      → have_same_counts (counts_of key) (counts_of entry.0) ≡ false
      → IsAdded key first (entries_of entries counts_of) (with_entry entries key first)
      → IsAdded key first (entries_of (entry ∷ entries) counts_of)
      (entries_of (match_ordering o ((key, first) ∷ entry ∷ entries) ((entry.0, first) ∷ entries)
      (entry ∷ insert_entry key_cmp entries key first)) counts_of)
  added_at entries entry key first Less is all trimmed apart rest = record {
    finds = λ other. refl;
    one_more = omega arith;
    trimmed = All-cons (λ (e : List ℕ × First). IsTrimmed e.0) (counts_of key, first)
        (entries_of (entry ∷ entries) counts_of) trimmed all;
  }
  added_at entries entry key first Equal is all trimmed apart rest =
      let equal = exact_bytes (counts_of key) (counts_of entry.0) is in
      absurd (false≢true (sym apart
      ∙ (same_exactly (counts_of key) (counts_of entry.0)).1 (λ i. ap (λ xs. get_or xs i 0) equal)))
  added_at entries entry key first Greater is all trimmed apart rest = record {
    finds = λ other.
        ap (cond (have_same_counts other (counts_of entry.0)) (Some entry.1)) (rest.finds other)
        ∙ turned other (counts_of key) (counts_of entry.0) first entry.1 (first_in (entries_of entries counts_of) other) apart;
    one_more = omega (arith, rest.one_more);
    trimmed = All-cons (λ (e : List ℕ × First). IsTrimmed e.0) (counts_of entry.0, entry.1)
        (with_entry entries key first)
        (All-head (λ (e : List ℕ × First). IsTrimmed e.0) (counts_of entry.0, entry.1) (entries_of entries counts_of) all)
        rest.trimmed;
  }

  pub added : (entries : List (K × First)) (key : K) (first : First) → AllTrimmed (entries_of entries counts_of)
      → IsTrimmed (counts_of key) → first_in (entries_of entries counts_of) (counts_of key) ≡ None
      → IsAdded key first (entries_of entries counts_of) (with_entry entries key first)
  added [] key first all trimmed none = record {
    finds = λ other. refl;
    one_more = refl;
    trimmed = All-cons (λ (e : List ℕ × First). IsTrimmed e.0) (counts_of key, first) []
        trimmed (All-nil (λ (e : List ℕ × First). IsTrimmed e.0));
  }
  added (entry ∷ entries) key first all trimmed none = elim (cases_Bool (have_same_counts (counts_of key) (counts_of entry.0))) [
    | inl same ↦ absurd (none-some entry.1 (sym none
        ∙ cond-true (have_same_counts (counts_of key) (counts_of entry.0)) (Some entry.1)
        (first_in (entries_of entries counts_of) (counts_of key)) same))
    | inr apart ↦
        let absent : first_in (entries_of entries counts_of) (counts_of key) ≡ None =
        sym (cond-false (have_same_counts (counts_of key) (counts_of entry.0)) (Some entry.1)
        (first_in (entries_of entries counts_of) (counts_of key)) apart) ∙ none in
        added_at entries entry key first (key_cmp key entry.0) refl all trimmed apart
        (added entries key first
        (All-tail (λ (e : List ℕ × First). IsTrimmed e.0) (counts_of entry.0, entry.1) (entries_of entries counts_of) all)
        trimmed absent)
  ]

-- the same for a map whose entries say what its keys are
pub finds : {K : Type 0} (entries : List (K × First)) (counts_of : K → List ℕ) (counts key : List ℕ)
    → AllTrimmed (entries_of entries counts_of) → IsTrimmed key → HaveSameCounts key counts
    → lookup (is_at (λ k. slice_cmp nat_cmp key (counts_of k))) entries ≡ first_in (entries_of entries counts_of) counts
finds entries counts_of = looked_up counts_of entries

-- and the entries after an insertion of the counts without trailing zeros
pub adds : {K : Type 0} (entries new : List (K × First)) (counts_of : K → List ℕ) (counts trim : List ℕ) (key : K)
    (first : First) (old : List (List ℕ × First))
    → new ≡ insert_entry (λ x y. slice_cmp nat_cmp (counts_of x) (counts_of y)) entries key first
    → entries_of entries counts_of ≡ old → AllTrimmed (entries_of entries counts_of) → counts_of key ≡ trim
    → IsTrimmed trim → HaveSameCounts trim counts → first_in old counts ≡ None
    → AddsRead counts first old (entries_of new counts_of)
adds entries new counts_of counts trim key first old inserted view all keyed trimmed same none =
    let same_key : HaveSameCounts (counts_of key) counts = subst (λ xs. HaveSameCounts xs counts) (sym keyed) same in
    let absent : first_in (entries_of entries counts_of) (counts_of key) ≡ None =
    first-same (entries_of entries counts_of) (counts_of key) counts same_key
    ∙ ap (λ es. first_in es counts) view ∙ none in
    let mine : List (List ℕ × First) =
    entries_of (insert_entry (λ x y. slice_cmp nat_cmp (counts_of x) (counts_of y)) entries key first) counts_of in
    subst (λ es. AddsRead counts first old es) (sym (ap (λ es. entries_of es counts_of) inserted))
    (subst (λ es. AddsRead counts first es mine) view
    (by_counts (counts_of key) counts first (entries_of entries counts_of) mine same_key
    (added counts_of entries key first all (subst IsTrimmed (sym keyed) trimmed) absent)))
