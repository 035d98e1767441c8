-- Lemmas on vectors with the same counts.
use Rattle.std.proofs.Common.{◌≡◌, ◌↔◌, ℕ, zero, suc, ◌+◌, ◌<◌, Bool, true, false, List, [], ◌∷◌, length, get_or, refl, sym, ap, ◌∙◌, subst, inl, inr, arith}
use Rattle.std.specs.Prelude.{◌==◌, ◌≤◌, ◌&&◌}
use Rattle.std.specs.List.{list_all}
use Rattle.std.specs.Ordering.{is_eq, nat_cmp}
use Rattle.std.specs.Cmp.{Equal-is, nat_cmp_total}
use Rattle.std.specs.Cmp.Lexicographic.{slice_cmp, lists_total}
use Rattle.std.specs.declared.cmp.Ordering.TheVariants.{Equal}
use Rattle.std.proofs.lemmas.Bool.{cases_lt, cases_eq, and_parts, and_from, eq-eqb, eqb-true}
use Rattle.std.proofs.lemmas.List.{ext_get_or}
use Rattle.std.proofs.lemmas.Cmp.{tied_itself}
use Rattle.std.proofs.lemmas.Map.Lookups.{exact_bytes}
use Rattle.ra_labels.proofs.InLists.{bool_same}
use Rattle.ra_any_reads.specs.Counts.{have_same_counts, HaveSameCounts, IsTrimmed}

zeros_each : (ys : List ℕ) → list_all (λ y. y == 0) ys ≡ true → (i : ℕ) → get_or ys i 0 ≡ 0
zeros_each [] all i = refl
zeros_each (y ∷ ys) all zero = eqb-true y 0 (and_parts (y == 0) (list_all (λ z. z == 0) ys) all).0
zeros_each (y ∷ ys) all (suc i) = zeros_each ys (and_parts (y == 0) (list_all (λ z. z == 0) ys) all).1 i

each_zeros : (ys : List ℕ) → ((i : ℕ) → get_or ys i 0 ≡ 0) → list_all (λ y. y == 0) ys ≡ true
each_zeros [] each = refl
each_zeros (y ∷ ys) each =
    and_from (y == 0) (list_all (λ z. z == 0) ys) (eq-eqb y 0 (each zero)) (each_zeros ys (λ i. each (suc i)))

same_each : (xs ys : List ℕ) → have_same_counts xs ys ≡ true → HaveSameCounts xs ys
same_each [] ys same i = sym (zeros_each ys same i)
same_each (x ∷ xs) [] same i = zeros_each (x ∷ xs) same i
same_each (x ∷ xs) (y ∷ ys) same zero = eqb-true x y (and_parts (x == y) (have_same_counts xs ys) same).0
same_each (x ∷ xs) (y ∷ ys) same (suc i) = same_each xs ys (and_parts (x == y) (have_same_counts xs ys) same).1 i

each_same : (xs ys : List ℕ) → HaveSameCounts xs ys → have_same_counts xs ys ≡ true
each_same [] ys each = each_zeros ys (λ i. sym (each i))
each_same (x ∷ xs) [] each = each_zeros (x ∷ xs) each
each_same (x ∷ xs) (y ∷ ys) each =
    and_from (x == y) (have_same_counts xs ys) (eq-eqb x y (each zero)) (each_same xs ys (λ i. each (suc i)))

pub same_exactly : (xs ys : List ℕ) → (have_same_counts xs ys ≡ true) ↔ HaveSameCounts xs ys
same_exactly xs ys = (same_each xs ys, each_same xs ys)

-- vectors with the same counts are the same as any other one or both are not
pub same_as_other : (xs ys other : List ℕ) → HaveSameCounts xs ys → have_same_counts xs other ≡ have_same_counts ys other
same_as_other xs ys other same =
    bool_same (have_same_counts xs other) (have_same_counts ys other)
    (λ is. each_same ys other (λ i. sym (same i) ∙ same_each xs other is i))
    (λ is. each_same xs other (λ i. same i ∙ same_each ys other is i))

-- ---- vectors that do not end in 0
-- past its end each count is 0
pub past_end : (xs : List ℕ) (i : ℕ) → length xs ≤ i → get_or xs i 0 ≡ 0
past_end [] i past = refl
past_end (x ∷ xs) zero past = absurd (omega (arith, past))
past_end (x ∷ xs) (suc i) past = past_end xs i (omega (arith, past))

before_end : (n : ℕ) → 0 < n → (last : ℕ) × (n ≡ last + 1)
before_end zero some = absurd (omega (arith, some))
before_end (suc n) some = (n, omega arith)

not_longer : (xs ys : List ℕ) → IsTrimmed ys → HaveSameCounts xs ys → ¬ (length xs < length ys)
not_longer xs ys trimmed same longer =
    let (last, is) = before_end (length ys) (omega (arith, longer)) in
    trimmed last is (sym (same last) ∙ past_end xs last (omega (arith, longer, is)))

pub trimmed_same : (xs ys : List ℕ) → IsTrimmed xs → IsTrimmed ys → HaveSameCounts xs ys → xs ≡ ys
trimmed_same xs ys first also same =
    let long : length xs ≡ length ys = elim (cases_lt (length xs) (length ys)) [
      | inl less ↦ absurd (not_longer xs ys also same less)
      | inr no_less ↦ elim (cases_lt (length ys) (length xs)) [
        | inl more ↦ absurd (not_longer ys xs first (λ i. sym (same i)) more)
        | inr no_more ↦ omega (arith, no_less, no_more)
      ]
    ] in
    ext_get_or 0 xs ys long (λ i below. same i)

-- of such vectors, the order of lists tells those with the same counts
pub equal_as_same : (counts key other : List ℕ) → IsTrimmed key → IsTrimmed other → HaveSameCounts key counts
    → is_eq (slice_cmp nat_cmp key other) ≡ have_same_counts counts other
equal_as_same counts key other trimmed also same =
    bool_same (is_eq (slice_cmp nat_cmp key other)) (have_same_counts counts other)
    (λ equal. each_same counts other (λ i. sym (same i)
    ∙ ap (λ zs. get_or zs i 0) (exact_bytes key other ((Equal-is (slice_cmp nat_cmp key other)).0 equal))))
    (λ is. (Equal-is (slice_cmp nat_cmp key other)).1
    (subst (λ zs. slice_cmp nat_cmp key zs ≡ Equal)
    (trimmed_same key other trimmed also (λ i. same i ∙ same_each counts other is i))
    (tied_itself (lists_total nat_cmp_total) key)))
