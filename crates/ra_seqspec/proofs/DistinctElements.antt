-- Lemmas on the distinct elements of rising pairs, found one after another.
use Rattle.std.proofs.Common.{◌≡◌, ℕ, ◌<◌, ◌≤◌, Bool, true, false, List, [], ◌∷◌, filter, Option, None, Some}
use Rattle.std.proofs.Common.{refl, sym, ap, ◌∙◌, inl, inr, arith, Ordering}
use Rattle.std.specs.Prelude.{◌==◌, ◌&&◌, nat_lt}
use Rattle.std.specs.List.{AllByRecursion, list_all}
use Rattle.std.specs.List.Sorted.{IsStrictlySortedBy}
use Rattle.std.specs.Option.{option_eq}
use Rattle.std.specs.Ordering.{MatchOrdering, nat_cmp, ordering_then, is_le}
use Rattle.std.specs.declared.cmp.Ordering.TheVariants.{Less, Equal, Greater}
use Rattle.std.specs.declared.ops.Bound.TheVariants.{Included, Unbounded}
use Rattle.std.specs.BTreeMap.Range.{range_contains}
use Rattle.std.proofs.lemmas.Cmp.{ranked}
use Rattle.std.proofs.lemmas.Bool.{cases_Bool, cases_order, cond-true, cond-false, eqb-true, eq-eqb, ne_eqb}
use Rattle.std.proofs.lemmas.Bool.{lt-ltb, le-ltb, ltb-true, ltb-false, and_parts, and_from}
use Rattle.ra_labels.specs.Lists.{rises, pair_cmp}
use Rattle.ra_labels.proofs.RisingLists.{all_lower}
use Rattle.ra_seqspec.specs.Pairs.{elements_behind, distinct_elements, is_above, elements_above, IsRestOf}
use Rattle.ra_seqspec.proofs.PairKeys.{all_behind, no_lower, above_last, distinct_rise}

-- numbers of which each passes the test
all_pass : (p : ℕ → Bool) (xs : List ℕ) → list_all p xs ≡ true → filter p xs ≡ xs
all_pass p [] all = refl
all_pass p (x ∷ xs) all =
    let parts = and_parts (p x) (list_all p xs) all in
    cond-true (p x) (x ∷ filter p xs) (filter p xs) parts.0 ∙ ap (λ zs. x ∷ zs) (all_pass p xs parts.1)

-- what passes first passes, and each number of which all pass does
first_passes : (p q : ℕ → Bool) (x : ℕ) (xs ys : List ℕ) → list_all q ys ≡ true → filter p ys ≡ x ∷ xs
    → (p x ≡ true) × (q x ≡ true)
first_passes p q x xs [] all found = absurd (cc found)
first_passes p q x xs (y ∷ ys) all found =
    let parts = and_parts (q y) (list_all q ys) all in
    elim (cases_Bool (p y)) [
      | inl passes ↦
          let same : y ∷ filter p ys ≡ x ∷ xs = sym (cond-true (p y) (y ∷ filter p ys) (filter p ys) passes) ∙ found in
          (cc (same, passes), cc (same, parts.0))
      | inr fails ↦
          first_passes p q x xs ys parts.1 (sym (cond-false (p y) (y ∷ filter p ys) (filter p ys) fails) ∙ found)
    ]

above_passes : (last : Option ℕ) (x : ℕ) (ys : List ℕ) → is_above last x ≡ true → list_all (λ y. nat_lt x y) ys ≡ true
    → list_all (is_above last) ys ≡ true
above_passes None x [] above all = refl
above_passes None x (y ∷ ys) above all =
    above_passes None x ys above (and_parts (nat_lt x y) (list_all (λ z. nat_lt x z) ys) all).1
above_passes (Some least) x ys above all = all_lower least x ys (ltb-true least x above) all

above_low : (last : Option ℕ) (x y : ℕ) → is_above last x ≡ false → is_above last y ≡ true → nat_lt y x ≡ false
above_low None x y low above = absurd (cc low)
above_low (Some least) x y low above =
    le-ltb y x (omega (arith, ltb-false least x low, ltb-true least y above))

-- what follows the first one of rising numbers above the last one is what is above it
pub next_above : (last : Option ℕ) (x : ℕ) (xs ys : List ℕ) → rises ys ≡ true → filter (is_above last) ys ≡ x ∷ xs
    → xs ≡ filter (is_above (Some x)) ys
next_above last x xs [] up found = absurd (cc found)
next_above last x xs (y ∷ ys) up found =
    let parts = and_parts (list_all (λ z. nat_lt y z) ys) (rises ys) up in
    elim (cases_Bool (is_above last y)) [
      | inl above ↦
          let same : y ∷ filter (is_above last) ys ≡ x ∷ xs =
          sym (cond-true (is_above last y) (y ∷ filter (is_above last) ys) (filter (is_above last) ys) above) ∙ found in
          let first : y ≡ x = cc same in
          let rest : filter (is_above last) ys ≡ xs = cc same in
          sym rest ∙ all_pass (is_above last) ys (above_passes last y ys above parts.0)
          ∙ sym (all_pass (λ z. nat_lt y z) ys parts.0)
          ∙ sym (cond-false (nat_lt y y) (y ∷ filter (λ z. nat_lt y z) ys) (filter (λ z. nat_lt y z) ys)
          (le-ltb y y (omega arith)))
          ∙ ap (λ w. filter (is_above (Some w)) (y ∷ ys)) first
      | inr low ↦
          let rest : filter (is_above last) ys ≡ x ∷ xs =
          sym (cond-false (is_above last y) (y ∷ filter (is_above last) ys) (filter (is_above last) ys) low) ∙ found in
          let passes = first_passes (is_above last) (λ z. nat_lt y z) x xs ys parts.0 rest in
          next_above last x xs ys parts.1 rest
          ∙ sym (cond-false (nat_lt x y) (y ∷ filter (λ z. nat_lt x z) ys) (filter (λ z. nat_lt x z) ys)
          (above_low last y x low passes.0))
    ]

-- a pair with a greater element is in the range, one with a smaller element is not
higher_by : (x m : ℕ) (q : ℕ × ℕ) (a b : Ordering) → MatchOrdering a (x < q.0) (x ≡ q.0) (q.0 < x) → x < q.0
    → is_le (ordering_then a b) ≡ true
higher_by x m q Less b test higher = refl
higher_by x m q Equal b test higher = absurd (omega (arith, test, higher))
higher_by x m q Greater b test higher = absurd (omega (arith, test, higher))

higher : (x m : ℕ) (q : ℕ × ℕ) → x < q.0 → range_contains pair_cmp (Included (x, m)) Unbounded q ≡ true
higher x m q less = and_from _ true (higher_by x m q (nat_cmp x q.0) (nat_cmp m q.1) (ranked x q.0 _ refl) less) refl

lower_by : (x m : ℕ) (q : ℕ × ℕ) (a b : Ordering) → MatchOrdering a (x < q.0) (x ≡ q.0) (q.0 < x) → q.0 < x
    → (is_le (ordering_then a b) && true) ≡ false
lower_by x m q Less b test lower = absurd (omega (arith, test, lower))
lower_by x m q Equal b test lower = absurd (omega (arith, test, lower))
lower_by x m q Greater b test lower = refl

lower : (x m : ℕ) (q : ℕ × ℕ) → q.0 < x → range_contains pair_cmp (Included (x, m)) Unbounded q ≡ false
lower x m q less = lower_by x m q (nat_cmp x q.0) (nat_cmp m q.1) (ranked x q.0 _ refl) less

all_higher : (x m : ℕ) (p : ℕ × ℕ) (qs : List (ℕ × ℕ)) → x < p.0 → AllByRecursion (λ q. p.0 ≤ q.0) qs
    → filter (range_contains pair_cmp (Included (x, m)) Unbounded) qs ≡ qs
all_higher x m p [] less all = refl
all_higher x m p (q ∷ qs) less all =
    let within = range_contains pair_cmp (Included (x, m)) Unbounded in
    cond-true (within q) (q ∷ filter within qs) (filter within qs) (higher x m q (omega (arith, less, all.0)))
    ∙ ap (λ zs. q ∷ zs) (all_higher x m p qs less all.1)

-- the last element is not greater than this one
abbrev IsAtMost : Option ℕ → ℕ → Type 0
IsAtMost None x = Unit {0}
IsAtMost (Some last) x = last ≤ x

-- of the elements above one that is not smaller, the first pair has none
drops_low : (x : ℕ) (last : Option ℕ) (p : ℕ × ℕ) (ps : List (ℕ × ℕ)) → p.0 ≤ x
    → filter (nat_lt x) (elements_behind last (p ∷ ps)) ≡ filter (nat_lt x) (elements_behind (Some p.0) ps)
drops_low x None p ps low =
    let rest = elements_behind (Some p.0) ps in
    cond-false (nat_lt x p.0) (p.0 ∷ filter (nat_lt x) rest) (filter (nat_lt x) rest) (le-ltb x p.0 low)
drops_low x (Some last) p ps low =
    let rest = elements_behind (Some p.0) ps in
    elim (cases_Bool (last == p.0)) [
      | inl same ↦
          ap (filter (nat_lt x)) (cond-true (last == p.0) (elements_behind (Some last) ps) (p.0 ∷ rest) same)
          ∙ ap (λ w. filter (nat_lt x) (elements_behind (Some w) ps)) (eqb-true last p.0 same)
      | inr other ↦
          ap (filter (nat_lt x)) (cond-false (last == p.0) (elements_behind (Some last) ps) (p.0 ∷ rest) other)
          ∙ cond-false (nat_lt x p.0) (p.0 ∷ filter (nat_lt x) rest) (filter (nat_lt x) rest) (le-ltb x p.0 low)
    ]

-- a first pair with a greater element than the last one
shows_high : (last : Option ℕ) (x : ℕ) (p : ℕ × ℕ) (ps : List (ℕ × ℕ)) → IsAtMost last x → x < p.0
    → elements_behind last (p ∷ ps) ≡ p.0 ∷ elements_behind (Some p.0) ps
shows_high None x p ps most less = refl
shows_high (Some last) x p ps most less =
    cond-false (last == p.0) (elements_behind (Some last) ps) (p.0 ∷ elements_behind (Some p.0) ps)
    (ne_eqb last p.0 (λ same. absurd (omega (arith, most, less, same))))

-- the elements behind one, from a pair of it on, are those that are greater
skips : (x m : ℕ) (last : Option ℕ) (ps : List (ℕ × ℕ)) → IsStrictlySortedBy pair_cmp ps → IsAtMost last x
    → elements_behind (Some x) (filter (range_contains pair_cmp (Included (x, m)) Unbounded) ps)
    ≡ filter (nat_lt x) (elements_behind last ps)
unfolding IsStrictlySortedBy
skips x m last [] ordered most = refl
skips x m last (p ∷ ps) ordered most =
    let within = range_contains pair_cmp (Included (x, m)) Unbounded in
    let rest = filter within ps in
    elim (cases_order x p.0) [
      | inl here ↦
          let next = skips x m (Some p.0) ps ordered.1 (omega (arith, here)) in
          let dropped = drops_low x last p ps (omega (arith, here)) in
          elim (cases_Bool (within p)) [
            | inl is ↦
                ap (elements_behind (Some x)) (cond-true (within p) (p ∷ rest) rest is)
                ∙ cond-true (x == p.0) (elements_behind (Some x) rest) (p.0 ∷ elements_behind (Some p.0) rest)
                (eq-eqb x p.0 here) ∙ next ∙ sym dropped
            | inr isnt ↦
                ap (elements_behind (Some x)) (cond-false (within p) (p ∷ rest) rest isnt) ∙ next ∙ sym dropped
          ]
      | inr apart ↦ elim apart [
        | inl above ↦
            let elements = elements_behind (Some p.0) ps in
            let low = no_lower p ps (all_behind p ps ordered.0) in
            ap (elements_behind (Some x))
            (cond-true (within p) (p ∷ rest) rest (higher x m p above) ∙ ap (λ zs. p ∷ zs) (all_higher x m p ps above low))
            ∙ shows_high (Some x) x p ps (omega arith) above
            ∙ sym (ap (filter (nat_lt x)) (shows_high last x p ps most above)
            ∙ cond-true (nat_lt x p.0) (p.0 ∷ filter (nat_lt x) elements) (filter (nat_lt x) elements) (lt-ltb x p.0 above)
            ∙ ap (λ zs. p.0 ∷ zs) (all_pass (nat_lt x) elements
            (all_lower x p.0 elements above (above_last p.0 ps ordered.1 low))))
        | inr below ↦
            ap (elements_behind (Some x)) (cond-false (within p) (p ∷ rest) rest (lower x m p below))
            ∙ skips x m (Some p.0) ps ordered.1 (omega (arith, below))
            ∙ sym (drops_low x last p ps (omega (arith, below)))
      ]
    ]

pub skipped : (x m : ℕ) (pairs : List (ℕ × ℕ)) → IsStrictlySortedBy pair_cmp pairs
    → IsRestOf pairs (Some x) (filter (range_contains pair_cmp (Included (x, m)) Unbounded) pairs)
skipped x m pairs ordered = skips x m None pairs ordered tt

-- the first pairs
first_by : (q : ℕ × ℕ) (a b : Ordering) → MatchOrdering a (0 < q.0) (0 ≡ q.0) (q.0 < 0)
    → MatchOrdering b (0 < q.1) (0 ≡ q.1) (q.1 < 0) → (is_le (ordering_then a b) && true) ≡ true
first_by q Less b first second = refl
first_by q Equal Less first second = refl
first_by q Equal Equal first second = refl
first_by q Equal Greater first second = absurd (omega arith)
first_by q Greater b first second = absurd (omega arith)

all_within : (qs : List (ℕ × ℕ)) → filter (range_contains pair_cmp (Included (0, 0)) Unbounded) qs ≡ qs
all_within [] = refl
all_within (q ∷ qs) =
    let within = range_contains pair_cmp (Included (0, 0)) Unbounded in
    cond-true (within q) (q ∷ filter within qs) (filter within qs)
    (first_by q (nat_cmp 0 q.0) (nat_cmp 0 q.1) (ranked 0 q.0 _ refl) (ranked 0 q.1 _ refl))
    ∙ ap (λ zs. q ∷ zs) (all_within qs)

all_above_none : (xs : List ℕ) → filter (is_above None) xs ≡ xs
all_above_none [] = refl
all_above_none (x ∷ xs) = ap (λ zs. x ∷ zs) (all_above_none xs)

pub all_elements : (pairs : List (ℕ × ℕ)) → elements_above None pairs ≡ distinct_elements pairs
all_elements pairs = all_above_none (distinct_elements pairs)

pub rest_at_first : (pairs : List (ℕ × ℕ))
    → IsRestOf pairs None (filter (range_contains pair_cmp (Included (0, 0)) Unbounded) pairs)
rest_at_first pairs = ap distinct_elements (all_within pairs) ∙ sym (all_elements pairs)

-- one pair further
pub rest_again : (pairs : List (ℕ × ℕ)) (last : Option ℕ) (p : ℕ × ℕ) (ps : List (ℕ × ℕ)) → IsRestOf pairs last (p ∷ ps)
    → last ≡ Some p.0 → IsRestOf pairs last ps
rest_again pairs None p ps is same = absurd (cc same)
rest_again pairs (Some x) p ps is same =
    let equal : x ≡ p.0 = cc same in
    sym (cond-true (x == p.0) (elements_behind (Some x) ps) (p.0 ∷ elements_behind (Some p.0) ps) (eq-eqb x p.0 equal)) ∙ is

-- the first pair has the next element, and the others are the pairs behind it
pub record IsNext (pairs : List (ℕ × ℕ)) (last : Option ℕ) (p : ℕ × ℕ) (ps : List (ℕ × ℕ)) : Type 0 where
  pub next : elements_above last pairs ≡ p.0 ∷ elements_above (Some p.0) pairs
  pub rest : IsRestOf pairs (Some p.0) ps

pub found_next : (pairs : List (ℕ × ℕ)) (last : Option ℕ) (p : ℕ × ℕ) (ps : List (ℕ × ℕ))
    → IsStrictlySortedBy pair_cmp pairs → IsRestOf pairs last (p ∷ ps)
    → option_eq (λ x y. x == y) last (Some p.0) ≡ false → IsNext pairs last p ps
found_next pairs last p ps ordered is other =
    let rest = elements_behind (Some p.0) ps in
    let found : elements_above last pairs ≡ p.0 ∷ rest =
    sym is ∙ cond-false (option_eq (λ x y. x == y) last (Some p.0)) (elements_behind last ps) (p.0 ∷ rest) other in
    let follows = next_above last p.0 rest (distinct_elements pairs) (distinct_rise pairs ordered) found in
    record { next = found ∙ ap (λ zs. p.0 ∷ zs) follows; rest = follows }
