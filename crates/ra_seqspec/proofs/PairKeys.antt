-- Lemmas on rising pairs: removing pairs, and reading identifiers and elements.
use Rattle.std.proofs.Common.{◌≡◌, ℕ, ◌<◌, ◌≤◌, Bool, true, false, cond, List, [], ◌∷◌, ◌++◌, filter, map, Option, None}
use Rattle.std.proofs.Common.{Some, refl, sym, ap, ◌∙◌, inl, inr, arith, Ordering}
use Rattle.std.specs.Prelude.{◌==◌, nat_lt, not, ◌&&◌, ◌||◌}
use Rattle.std.specs.Cmp.{IsTotalOrder}
use Rattle.std.specs.List.{AllByRecursion, list_all}
use Rattle.std.specs.List.Sorted.{IsStrictlySortedBy}
use Rattle.std.specs.Option.{option_eq}
use Rattle.std.specs.Ordering.{MatchOrdering, nat_cmp, ordering_then, is_eq, is_le}
use Rattle.std.specs.declared.cmp.Ordering.TheVariants.{Less, Equal, Greater}
use Rattle.std.specs.declared.ops.Bound.TheVariants.{Included, Unbounded}
use Rattle.std.specs.BTreeMap.{is_at}
use Rattle.std.specs.BTreeMap.Range.{range_contains}
use Rattle.std.specs.Set.{remove_key}
use Rattle.std.proofs.lemmas.Cmp.{ranked, nat_cmp_total, on_total, then_total}
use Rattle.std.proofs.lemmas.Bool.{cases_Bool, cases_order, cond-true, cond-false, eqb-true, eqb-false, eq-eqb, ne_eqb}
use Rattle.std.proofs.lemmas.Bool.{lt-ltb, le-ltb, and_from, and_right, not_from_true}
use Rattle.std.proofs.lemmas.Bool.{not_from_false}
use Rattle.std.proofs.lemmas.Bool.Decides.{nat_tests}
use Rattle.std.proofs.Math.Bool.{or-false, or_comm, or_assoc}
use Rattle.ra_labels.specs.Lists.{is_among, rises, pair_cmp, identifiers_of, elements_of, without_pairs}
use Rattle.ra_labels.proofs.RisingLists.{all_lower}
use Rattle.ra_labels.proofs.Comparisons.{then_eq, eqb-comm, is_eq-nat_cmp}
use Rattle.ra_seqspec.specs.Pairs.{identifiers_in_front, elements_behind, distinct_elements}
use Rattle.ra_seqspec.proofs.Keys.{removed, filter_none_left}

pub pairs_total : IsTotalOrder pair_cmp
pairs_total = then_total (on_total (λ p. p.0) nat_cmp_total) (on_total (λ p. p.1) nat_cmp_total)

pub pair_test : (p q : ℕ × ℕ) → is_at (pair_cmp p) q ≡ (p.0 == q.0 && p.1 == q.1)
pair_test p q =
    then_eq (nat_cmp p.0 q.0) (nat_cmp p.1 q.1)
    ∙ ap (λ b. b && is_eq (nat_cmp p.1 q.1)) (is_eq-nat_cmp p.0 q.0)
    ∙ ap (λ b. p.0 == q.0 && b) (is_eq-nat_cmp p.1 q.1)

-- one more identifier is removed
filter_twice : (p q r : ℕ × ℕ → Bool) → ((k : ℕ × ℕ) → r k ≡ (q k && p k)) → (ks : List (ℕ × ℕ))
    → filter p (filter q ks) ≡ filter r ks
filter_twice p q r both [] = refl
filter_twice p q r both (k ∷ ks) = elim (cases_Bool (q k)) [
  | inl stays ↦
      ap (filter p) (cond-true (q k) (k ∷ filter q ks) (filter q ks) stays)
      ∙ ap (λ zs. cond (p k) (k ∷ zs) zs) (filter_twice p q r both ks)
      ∙ ap (λ b. cond b (k ∷ filter r ks) (filter r ks)) (sym (both k ∙ ap (λ b. b && p k) stays))
  | inr goes ↦
      ap (filter p) (cond-false (q k) (k ∷ filter q ks) (filter q ks) goes)
      ∙ filter_twice p q r both ks
      ∙ ap (λ b. cond b (k ∷ filter r ks) (filter r ks)) (sym (both k ∙ ap (λ b. b && p k) goes))
]

among_push : (x y : ℕ) (xs : List ℕ) → is_among x (xs ++ y ∷ []) ≡ (is_among x xs || x == y)
among_push x y [] = or-false (x == y)
among_push x y (z ∷ zs) = ap (λ b. x == z || b) (among_push x y zs) ∙ sym (or_assoc (x == z) (is_among x zs) (x == y))

one_more : (here among last : Bool) → not (here && (among || last)) ≡ (not (here && among) && not (here && last))
one_more true true last = refl
one_more true false last = refl
one_more false among last = refl

pub taken_out_more : (x id : ℕ) (ids : List ℕ) (pairs : List (ℕ × ℕ))
    → IsStrictlySortedBy pair_cmp (without_pairs x ids pairs)
    → remove_key (is_at (pair_cmp (x, id))) (without_pairs x ids pairs) ≡ without_pairs x (ids ++ id ∷ []) pairs
taken_out_more x id ids pairs ordered =
    removed pairs_total (x, id) (without_pairs x ids pairs) ordered
    ∙ filter_twice (λ q. not (is_at (pair_cmp (x, id)) q)) (λ q. not (x == q.0 && is_among q.1 ids))
    (λ q. not (x == q.0 && is_among q.1 (ids ++ id ∷ []))) (λ q.
    ap (λ b. not (x == q.0 && b)) (among_push q.1 id ids) ∙ one_more (x == q.0) (is_among q.1 ids) (q.1 == id)
    ∙ ap (λ b. not (x == q.0 && is_among q.1 ids) && not b)
    (ap (λ b. x == q.0 && b) (eqb-comm q.1 id) ∙ sym (pair_test (x, id) q))) pairs

-- pairs behind another: the element is not smaller, and for equal elements the identifier is greater
pub record Behind (p q : ℕ × ℕ) : Type 0 where
  pub no_lower : p.0 ≤ q.0
  pub higher : p.0 ≡ q.0 → p.1 < q.1

behind_by : (p q : ℕ × ℕ) (a b : Ordering) → MatchOrdering a (p.0 < q.0) (p.0 ≡ q.0) (q.0 < p.0)
    → MatchOrdering b (p.1 < q.1) (p.1 ≡ q.1) (q.1 < p.1) → ordering_then a b ≡ Less → Behind p q
behind_by p q Less b first second less = record { no_lower = omega arith; higher = λ same. absurd (omega arith) }
behind_by p q Equal Less first second less = record { no_lower = omega arith; higher = λ same. second }
behind_by p q Equal Equal first second less = absurd (cc less)
behind_by p q Equal Greater first second less = absurd (cc less)
behind_by p q Greater b first second less = absurd (cc less)

behind : (p q : ℕ × ℕ) → pair_cmp p q ≡ Less → Behind p q
behind p q less = behind_by p q (nat_cmp p.0 q.0) (nat_cmp p.1 q.1) (ranked p.0 q.0 _ refl) (ranked p.1 q.1 _ refl) less

pub all_behind : (p : ℕ × ℕ) (qs : List (ℕ × ℕ)) → AllByRecursion (λ q. pair_cmp p q ≡ Less) qs
    → AllByRecursion (Behind p) qs
all_behind p [] all = all
all_behind p (q ∷ qs) all = (behind p q all.0, all_behind p qs all.1)

-- the identifiers from the start of a search
from_by : (x : ℕ) (q : ℕ × ℕ) (a b : Ordering) → MatchOrdering a (x < q.0) (x ≡ q.0) (q.0 < x)
    → MatchOrdering b (0 < q.1) (0 ≡ q.1) (q.1 < 0) → (is_le (ordering_then a b) && true) ≡ not (nat_lt q.0 x)
from_by x q Less b first second = grind (arith, nat_tests)
from_by x q Equal Less first second = grind (arith, nat_tests)
from_by x q Equal Equal first second = grind (arith, nat_tests)
from_by x q Equal Greater first second = absurd (omega arith)
from_by x q Greater b first second = grind (arith, nat_tests)

from_test : (x : ℕ) (q : ℕ × ℕ) → range_contains pair_cmp (Included (x, 0)) Unbounded q ≡ not (nat_lt q.0 x)
from_test x q = from_by x q (nat_cmp x q.0) (nat_cmp 0 q.1) (ranked x q.0 _ refl) (ranked 0 q.1 _ refl)

-- no pair behind one with a greater element has the element
higher_none : (x : ℕ) (p : ℕ × ℕ) (qs : List (ℕ × ℕ)) → x < p.0 → AllByRecursion (Behind p) qs
    → identifiers_of x qs ≡ []
higher_none x p [] less all = refl
higher_none x p (q ∷ qs) less all =
    ap (map (λ (pair : ℕ × ℕ). pair.1))
    (cond-false (x == q.0) (q ∷ filter (λ (pair : ℕ × ℕ). x == pair.0) qs)
    (filter (λ (pair : ℕ × ℕ). x == pair.0) qs)
    (ne_eqb x q.0 (λ same. absurd (omega (arith, less, all.0.no_lower)))))
    ∙ higher_none x p qs less all.1

-- the identifiers of an element are at the front of the range that starts at its first possible pair
pub identifiers_found : (x : ℕ) (pairs : List (ℕ × ℕ)) → IsStrictlySortedBy pair_cmp pairs
    → identifiers_in_front x (filter (range_contains pair_cmp (Included (x, 0)) Unbounded) pairs)
    ≡ identifiers_of x pairs
unfolding IsStrictlySortedBy
identifiers_found x [] ordered = refl
identifiers_found x (p ∷ ps) ordered =
    let goes = range_contains pair_cmp (Included (x, 0)) Unbounded in
    let rest = filter (range_contains pair_cmp (Included (x, 0)) Unbounded) ps in
    let same = filter (λ (pair : ℕ × ℕ). x == pair.0) ps in
    elim (cases_order x p.0) [
      | inl here ↦
          ap (identifiers_in_front x)
          (cond-true (goes p) (p ∷ rest) rest
          (from_test x p ∙ not_from_false (nat_lt p.0 x) (le-ltb p.0 x (omega (arith, here)))))
          ∙ cond-true (p.0 == x) (p.1 ∷ identifiers_in_front x rest) [] (eq-eqb p.0 x (sym here))
          ∙ ap (λ zs. p.1 ∷ zs) (identifiers_found x ps ordered.1)
          ∙ ap (map (λ (pair : ℕ × ℕ). pair.1)) (sym (cond-true (x == p.0) (p ∷ same) same (eq-eqb x p.0 here)))
      | inr apart ↦ elim apart [
        | inl above ↦
            ap (identifiers_in_front x)
            (cond-true (goes p) (p ∷ rest) rest
            (from_test x p ∙ not_from_false (nat_lt p.0 x) (le-ltb p.0 x (omega (arith, above)))))
            ∙ cond-false (p.0 == x) (p.1 ∷ identifiers_in_front x rest) []
            (ne_eqb p.0 x (λ same. absurd (omega (arith, above, same))))
            ∙ sym (ap (map (λ (pair : ℕ × ℕ). pair.1))
            (cond-false (x == p.0) (p ∷ same) same (ne_eqb x p.0 (λ is. absurd (omega (arith, above, is)))))
            ∙ higher_none x p ps above (all_behind p ps ordered.0))
        | inr below ↦
            ap (identifiers_in_front x)
            (cond-false (goes p) (p ∷ rest) rest
            (from_test x p ∙ not_from_true (nat_lt p.0 x) (lt-ltb p.0 x below)))
            ∙ identifiers_found x ps ordered.1
            ∙ ap (map (λ (pair : ℕ × ℕ). pair.1))
            (sym (cond-false (x == p.0) (p ∷ same) same (ne_eqb x p.0 (λ is. absurd (omega (arith, below, is))))))
      ]
    ]

-- they rise
lower_than_all : (x : ℕ) (p : ℕ × ℕ) (qs : List (ℕ × ℕ)) → p.0 ≡ x → AllByRecursion (Behind p) qs
    → list_all (λ y. nat_lt p.1 y) (identifiers_of x qs) ≡ true
lower_than_all x p [] is all = refl
lower_than_all x p (q ∷ qs) is all =
    let same = filter (λ (pair : ℕ × ℕ). x == pair.0) qs in
    elim (cases_Bool (x == q.0)) [
      | inl here ↦
          ap (λ es. list_all (λ y. nat_lt p.1 y) (map (λ (pair : ℕ × ℕ). pair.1) es))
          (cond-true (x == q.0) (q ∷ same) same here)
          ∙ and_from (nat_lt p.1 q.1) _ (lt-ltb p.1 q.1 (all.0.higher (is ∙ eqb-true x q.0 here)))
          (lower_than_all x p qs is all.1)
      | inr away ↦
          ap (λ es. list_all (λ y. nat_lt p.1 y) (map (λ (pair : ℕ × ℕ). pair.1) es))
          (cond-false (x == q.0) (q ∷ same) same away)
          ∙ lower_than_all x p qs is all.1
    ]

pub identifiers_rise : (x : ℕ) (pairs : List (ℕ × ℕ)) → IsStrictlySortedBy pair_cmp pairs
    → rises (identifiers_of x pairs) ≡ true
unfolding IsStrictlySortedBy
identifiers_rise x [] ordered = refl
identifiers_rise x (p ∷ ps) ordered =
    let same = filter (λ (pair : ℕ × ℕ). x == pair.0) ps in
    elim (cases_Bool (x == p.0)) [
      | inl here ↦
          ap (λ es. rises (map (λ (pair : ℕ × ℕ). pair.1) es)) (cond-true (x == p.0) (p ∷ same) same here)
          ∙ and_from (list_all (λ y. nat_lt p.1 y) (identifiers_of x ps)) (rises (identifiers_of x ps))
          (lower_than_all x p ps (sym (eqb-true x p.0 here)) (all_behind p ps ordered.0))
          (identifiers_rise x ps ordered.1)
      | inr away ↦ ap (λ es. rises (map (λ (pair : ℕ × ℕ). pair.1) es)) (cond-false (x == p.0) (p ∷ same) same away)
          ∙ identifiers_rise x ps ordered.1
    ]

-- whether x is the last element
abbrev is_last : ℕ → Option ℕ → Bool
is_last x None = false
is_last x (Some y) = x == y

is_it : (p : ℕ × ℕ) (last : Option ℕ) → option_eq (λ x y. x == y) last (Some p.0) ≡ is_last p.0 last
is_it p None = refl
is_it p (Some y) = eqb-comm y p.0

twice : (a b : Bool) → (a || b) ≡ ((b || a) || b)
twice true true = refl
twice true false = refl
twice false true = refl
twice false false = refl

last_again : (x y : ℕ) (last : Option ℕ) (among : Bool) → is_last y last ≡ true
    → (among || is_last x last) ≡ ((x == y || among) || is_last x last)
last_again x y None among is = absurd (cc is)
last_again x y (Some z) among is =
    let same : (x == y) ≡ (x == z) = ap (λ w. x == w) (eqb-true y z is) in
    twice among (x == z) ∙ ap (λ b. (b || among) || x == z) (sym same)

-- each element is listed
among_behind : (x : ℕ) (last : Option ℕ) (pairs : List (ℕ × ℕ))
    → (is_among x (elements_behind last pairs) || is_last x last) ≡ (is_among x (elements_of pairs) || is_last x last)
among_behind x last [] = refl
among_behind x last (p ∷ ps) =
    let test = option_eq (λ x y. x == y) last (Some p.0) in
    elim (cases_Bool test) [
      | inl again ↦
          ap (λ es. is_among x es || is_last x last)
          (cond-true test (elements_behind last ps) (p.0 ∷ elements_behind (Some p.0) ps) again)
          ∙ among_behind x last ps
          ∙ last_again x p.0 last (is_among x (elements_of ps)) (sym (is_it p last) ∙ again)
      | inr other ↦
          ap (λ es. is_among x es || is_last x last)
          (cond-false test (elements_behind last ps) (p.0 ∷ elements_behind (Some p.0) ps) other)
          ∙ ap (λ b. b || is_last x last) (or_comm (x == p.0) (is_among x (elements_behind (Some p.0) ps))
          ∙ among_behind x (Some p.0) ps ∙ or_comm (is_among x (elements_of ps)) (x == p.0))
    ]

pub distinct_same : (x : ℕ) (pairs : List (ℕ × ℕ))
    → is_among x (distinct_elements pairs) ≡ is_among x (elements_of pairs)
distinct_same x pairs = sym (or-false (is_among x (distinct_elements pairs))) ∙ among_behind x None pairs
    ∙ or-false (is_among x (elements_of pairs))

-- the listed elements are greater than the last one
pub no_lower : (p : ℕ × ℕ) (qs : List (ℕ × ℕ)) → AllByRecursion (Behind p) qs → AllByRecursion (λ q. p.0 ≤ q.0) qs
no_lower p [] all = all
no_lower p (q ∷ qs) all = (all.0.no_lower, no_lower p qs all.1)

pub above_last : (least : ℕ) (pairs : List (ℕ × ℕ)) → IsStrictlySortedBy pair_cmp pairs
    → AllByRecursion (λ p. least ≤ p.0) pairs
    → list_all (λ y. nat_lt least y) (elements_behind (Some least) pairs) ≡ true
unfolding IsStrictlySortedBy
above_last least [] ordered all = refl
above_last least (p ∷ ps) ordered all = elim (cases_Bool (least == p.0)) [
  | inl again ↦
      ap (list_all (λ y. nat_lt least y))
      (cond-true (least == p.0) (elements_behind (Some least) ps) (p.0 ∷ elements_behind (Some p.0) ps) again)
      ∙ above_last least ps ordered.1 all.1
  | inr other ↦
      let less : least < p.0 = omega (arith, all.0, eqb-false least p.0 other) in
      ap (list_all (λ y. nat_lt least y))
      (cond-false (least == p.0) (elements_behind (Some least) ps) (p.0 ∷ elements_behind (Some p.0) ps) other)
      ∙ and_from (nat_lt least p.0) _ (lt-ltb least p.0 less)
      (all_lower least p.0 (elements_behind (Some p.0) ps) less
      (above_last p.0 ps ordered.1 (no_lower p ps (all_behind p ps ordered.0))))
]

-- and rise
behind_rise : (last : Option ℕ) (pairs : List (ℕ × ℕ)) → IsStrictlySortedBy pair_cmp pairs
    → rises (elements_behind last pairs) ≡ true
unfolding IsStrictlySortedBy
behind_rise last [] ordered = refl
behind_rise last (p ∷ ps) ordered =
    let test = option_eq (λ x y. x == y) last (Some p.0) in
    elim (cases_Bool test) [
      | inl again ↦ ap rises (cond-true test (elements_behind last ps) (p.0 ∷ elements_behind (Some p.0) ps) again)
          ∙ behind_rise last ps ordered.1
      | inr other ↦
          ap rises (cond-false test (elements_behind last ps) (p.0 ∷ elements_behind (Some p.0) ps) other)
          ∙ and_from (list_all (λ y. nat_lt p.0 y) (elements_behind (Some p.0) ps))
          (rises (elements_behind (Some p.0) ps))
          (above_last p.0 ps ordered.1 (no_lower p ps (all_behind p ps ordered.0)))
          (behind_rise (Some p.0) ps ordered.1)
    ]

pub distinct_rise : (pairs : List (ℕ × ℕ)) → IsStrictlySortedBy pair_cmp pairs → rises (distinct_elements pairs) ≡ true
distinct_rise pairs ordered = behind_rise None pairs ordered

none_named : (x : ℕ) (pairs : List (ℕ × ℕ)) → AllByRecursion (λ q. not (x == q.0 && false) ≡ true) pairs
none_named x [] = tt
none_named x (q ∷ qs) = (not_from_false (x == q.0 && false) (and_right (x == q.0) false refl), none_named x qs)

pub without_none : (x : ℕ) (pairs : List (ℕ × ℕ)) → without_pairs x [] pairs ≡ pairs
without_none x pairs = filter_none_left (λ q. not (x == q.0 && false)) pairs (none_named x pairs)
