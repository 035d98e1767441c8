-- Lemmas on the look-up of clocks.
use Rattle.std.proofs.Common.{◌≡◌, ℕ, ◌<◌, ◌≤◌, Bool, true, false, List, ◌∷◌, length, get_or, refl, sym, ap, ◌∙◌, arith}
use Rattle.std.specs.Prelude.{◌||◌, ◌&&◌, ◌==◌, nat_eq, nat_lt, set}
use Rattle.std.specs.List.{list_any, insert}
use Rattle.std.specs.List.Sorted.{IsNonDecreasing, IsPartitionPoint}
use Rattle.std.specs.Ordering.{is_eq, nat_cmp}
use Rattle.std.proofs.lemmas.Bool.{eq-eqb, ne_eqb, eqb-true, ltb-true, ltb-false}
use Rattle.std.proofs.lemmas.List.Elements.{All-from_get_or}
use Rattle.std.proofs.lemmas.List.Folds.{list_any_at, list_any_none}
use Rattle.std.proofs.lemmas.List.Sorted.{list_any-IsPermutation, IsPermutation-insert, IsNonDecreasingBy-insert}
use Rattle.std.proofs.lemmas.List.{get_or-set_same, get_or-set_other}
use Rattle.std.proofs.lemmas.Grind.{get_or_default_zero}
use Rattle.ra_labels.specs.declared.label.Stamp.{Stamp}
use Rattle.ra_labels.specs.NamedOrder.{stamp_cmp}
use Rattle.ra_labels.proofs.Comparisons.{eqb-comm, is_eq-nat_cmp, then_eq}
use Rattle.ra_monitor.specs.Clocks.{Clocks, is_clock_in, IsIndexFor}
use Rattle.ra_monitor.specs.UsedKeys.{clocks_at}

both : true ≡ false → ⊥
both e = absurd (cc e)

-- the index that a search finds
pub index_found : (xs : List ℕ) (clock index : ℕ) → index ≤ length xs
    → IsPartitionPoint (λ own. nat_lt own clock ≡ true) (λ own. nat_lt own clock ≡ false) xs index → IsIndexFor xs clock index
index_found xs clock index among point = record {
  among = among;
  before = λ k below. ltb-true (get_or xs k 0) clock (point.0 k 0 (omega arith) below);
  behind = λ k behind below. ltb-false (get_or xs k 0) clock (point.1 k 0 behind below);
}

-- if another clock stands at its index, the clock is not in the list
differs : (xs : List ℕ) (clock index own i : ℕ) (b : Bool) → IsNonDecreasing xs → IsIndexFor xs clock index → index < length xs
    → get_or xs index 0 ≡ own → ¬ (own ≡ clock) → i < length xs → nat_lt i index ≡ b → ¬ (clock ≡ get_or xs i 0)
differs xs clock index own i true sorted at there is other below e same = absurd (omega (arith, same, at.before i (ltb-true i index e)))
differs xs clock index own i false sorted at there is other below e same =
    let behind : index ≤ i = ltb-false i index e in
    other (omega (arith, is, same, sorted index i 0 behind below, at.behind index (omega arith) there))

-- a clock is in the list exactly if it stands at its index
pub found_at : (xs : List ℕ) (clock index own : ℕ) (b : Bool) → IsNonDecreasing xs → IsIndexFor xs clock index
    → index < length xs → get_or xs index 0 ≡ own → nat_eq own clock ≡ b → b ≡ list_any (nat_eq clock) xs
found_at xs clock index own true sorted at there is same =
    sym (list_any_at (nat_eq clock) xs index 0 there (eq-eqb clock (get_or xs index 0) (sym (is ∙ eqb-true own clock same))))
found_at xs clock index own false sorted at there is same =
    sym (list_any_none (nat_eq clock) xs (All-from_get_or (λ x. nat_eq clock x ≡ false) xs 0
    (λ i below. ne_eqb clock (get_or xs i 0) (differs xs clock index own i (nat_lt i index) sorted at there is (λ e. both (sym (eq-eqb own clock e) ∙ same)) below refl))))

-- if its index is the length of the list, the clock is not in the list
pub not_found : (xs : List ℕ) (clock index : ℕ) → IsIndexFor xs clock index → length xs ≤ index → false ≡ list_any (nat_eq clock) xs
not_found xs clock index at past =
    sym (list_any_none (nat_eq clock) xs (All-from_get_or (λ x. nat_eq clock x ≡ false) xs 0
    (λ i below. ne_eqb clock (get_or xs i 0) (λ same. absurd (omega (arith, same, at.before i (omega (arith, below, past))))))))

-- the list with one more clock at its index
pub one_more : (xs : List ℕ) (index clock other : ℕ) → list_any (nat_eq other) (insert xs index clock) ≡ (nat_eq other clock || list_any (nat_eq other) xs)
one_more xs index clock other =
    sym (list_any-IsPermutation (nat_eq other) (clock ∷ xs) (insert xs index clock) (IsPermutation-insert xs index clock))

pub sorted_with : (xs : List ℕ) (index clock : ℕ) → IsNonDecreasing xs → IsIndexFor xs clock index → IsNonDecreasing (insert xs index clock)
sorted_with xs index clock sorted at =
    IsNonDecreasingBy-insert (λ x. x) xs index clock sorted at.among
    (λ k d below. omega (arith, get_or_default_zero xs k d (omega (arith, below, at.among)), at.before k below))
    (λ k d behind below. omega (arith, get_or_default_zero xs k d below, at.behind k behind below))

-- stamps are equal exactly if their clocks and replicas are
pub stamps_eq : (s t : Stamp) → is_eq (stamp_cmp s t) ≡ (s.clock == t.clock && s.replica == t.replica)
stamps_eq s t =
    then_eq (nat_cmp s.clock t.clock) (nat_cmp s.replica t.replica)
    ∙ ap (λ b. b && is_eq (nat_cmp s.replica t.replica)) (is_eq-nat_cmp s.clock t.clock)
    ∙ ap (λ b. s.clock == t.clock && b) (is_eq-nat_cmp s.replica t.replica)

and_true : (b : Bool) → (b && true) ≡ b
and_true true = refl
and_true false = refl

and_false : (b : Bool) → (b && false) ≡ false
and_false true = refl
and_false false = refl

-- the stamps after a clock is added to one replica's clocks
pub stamp_more : (all : List Clocks) (own stamp : Stamp) (clocks : Clocks) (b : Bool) → own.replica < length all
    → ((other : ℕ) → is_clock_in clocks other ≡ (nat_eq other own.clock || is_clock_in (clocks_at all own.replica) other))
    → (own.replica == stamp.replica) ≡ b
    → is_clock_in (clocks_at (set all own.replica clocks) stamp.replica) stamp.clock
    ≡ (is_eq (stamp_cmp own stamp) || is_clock_in (clocks_at all stamp.replica) stamp.clock)
stamp_more all own stamp clocks true there more same =
    let at : own.replica ≡ stamp.replica = eqb-true own.replica stamp.replica same in
    let here : clocks_at (set all own.replica clocks) stamp.replica ≡ clocks =
    ap (λ r. clocks_at (set all own.replica clocks) r) (sym at) ∙ get_or-set_same all own.replica clocks _ there in
    ap (λ (c : Clocks). is_clock_in c stamp.clock) here
    ∙ more stamp.clock
    ∙ ap (λ r. nat_eq stamp.clock own.clock || is_clock_in (clocks_at all r) stamp.clock) at
    ∙ ap (λ b. b || is_clock_in (clocks_at all stamp.replica) stamp.clock) (
    eqb-comm stamp.clock own.clock
    ∙ sym (and_true (own.clock == stamp.clock))
    ∙ ap (λ b. own.clock == stamp.clock && b) (sym same)
    ∙ sym (stamps_eq own stamp)
    )
stamp_more all own stamp clocks false there more other =
    ap (λ (c : Clocks). is_clock_in c stamp.clock)
    (get_or-set_other all own.replica stamp.replica clocks _ (λ e. both (sym (eq-eqb own.replica stamp.replica (sym e)) ∙ other)))
    ∙ ap (λ b. b || is_clock_in (clocks_at all stamp.replica) stamp.clock)
    (sym (stamps_eq own stamp ∙ ap (λ b. own.clock == stamp.clock && b) other ∙ and_false (own.clock == stamp.clock)))
