-- Lemmas on the positions of labels in an order.
use Rattle.std.proofs.Common.{◌≡◌, ℕ, zero, suc, ◌+◌, ◌-◌, ◌<◌, ◌≤◌, List, [], ◌∷◌, length, get_or, set, take, drop, replicate, refl, sym, ap, ◌∙◌, subst, inl, inr, arith}
use Rattle.std.specs.Prelude.{◌⊎◌, Contains, nat_lt}
use Rattle.std.proofs.lemmas.Bool.{cases_eq, cases_lt, and_parts, and_from, ltb-true, lt-ltb}
use Rattle.std.proofs.lemmas.Grind.{get_or_default_zero}
use Rattle.std.proofs.lemmas.List.{get_or-replicate, get_or_past, get_or-set_same, get_or-set_other, get_or-take, length-replicate, length-take-le, take_all, take-append-drop}
use Rattle.std.proofs.lemmas.List.Elements.{Contains-get_or}
use Rattle.ra_labels.specs.Edges.{EachOnce, IsBefore}
use Rattle.ra_precedence.specs.Conditions.{Condition, HasEachBelow, Meets}
use Rattle.ra_precedence.specs.Placing.{times}
use Rattle.ra_precedence.specs.Positions.{ArePositions, IsLastPosition}
use Rattle.ra_precedence.proofs.Times.{one_if-is, one_if-not, times_none, times-there, times_append, times_more, each_once, once_each}
use Rattle.ra_precedence.proofs.Using.{in_more, still_in, last_in}

-- a label of the list is at a position
pub record IsAtPosition (xs : List ℕ) (x i : ℕ) : Type 0 where
  pub within : i < length xs
  pub here : get_or xs i 0 ≡ x

pub position_in : (xs : List ℕ) (x : ℕ) → Contains xs x → (i : ℕ) × IsAtPosition xs x i
position_in xs x (i, within, is) =
    (i, record { within = within; here = sym (get_or_default_zero xs i x within) ∙ is })

-- one label stands before another one exactly if it is at a lower position
pub positions_in : (xs : List ℕ) (a b : ℕ) → IsBefore xs a b
    → (i j : ℕ) × (i < j) × IsAtPosition xs a i × IsAtPosition xs b j
positions_in [] a b before = absurd before
positions_in (x ∷ xs) a b (inl (is, there)) =
    let (j, at) = position_in xs b there in
    let low = at.within in
    (0, suc j, omega arith, record { within = omega arith; here = is }, record { within = omega (arith, low); here = at.here })
positions_in (x ∷ xs) a b (inr further) =
    let (i, j, less, first, second) = positions_in xs a b further in
    let first_low = first.within in
    let second_low = second.within in (
      suc i,
      suc j,
      omega (arith, less),
      record { within = omega (arith, first_low); here = first.here },
      record { within = omega (arith, second_low); here = second.here },
    )

pub before_by_position : (xs : List ℕ) (i j : ℕ) → i < j → j < length xs → IsBefore xs (get_or xs i 0) (get_or xs j 0)
before_by_position [] i j less within = absurd (omega (arith, within))
before_by_position (x ∷ xs) i zero less within = absurd (omega (arith, less))
before_by_position (x ∷ xs) zero (suc j) less within = inl (refl, Contains-get_or xs j 0 (omega (arith, within)))
before_by_position (x ∷ xs) (suc i) (suc j) less within =
    inr (before_by_position xs i j (omega (arith, less)) (omega (arith, within)))

-- what is known when the first i labels of the list have their positions: these are the positions that are not 0
pub record ArePositionsBelow (order positions : List ℕ) (i : ℕ) : Type 0 where
  pub there : (k : ℕ) → k < i → get_or positions (get_or order k 0) 0 ≡ k + 1
  pub back : (x k : ℕ) → get_or positions x 0 ≡ k + 1 → (k < i) × (get_or order k 0 ≡ x)
  pub once : (b : ℕ) → times b (take i order) ≤ 1

-- the position of a label that has none
abbrev pub no_position : ℕ
no_position = 0

zeros : (n x : ℕ) → get_or (replicate n no_position) x no_position ≡ no_position
zeros n x = elim (cases_lt x n) [
  | inl within ↦ get_or-replicate n x no_position no_position within
  | inr past ↦ get_or_past (replicate n no_position) x no_position (omega (arith, past, length-replicate n no_position))
]

pub positions_none : (order : List ℕ) (n : ℕ) → ArePositionsBelow order (replicate n no_position) 0
positions_none order n = record {
  there = λ k less. absurd (omega (arith, less));
  back = λ x k is. absurd (omega (arith, is, zeros n x));
  once = λ b. omega arith;
}

-- a label without a position is not among the first ones
module _ (order positions : List ℕ) (i : ℕ) (within : i < length order) (are : ArePositionsBelow order positions i) where
  not_yet : (x : ℕ) → get_or positions x 0 ≡ 0 → ¬ Contains (take i order) x
  not_yet x none there =
      let (k, at) = position_in (take i order) x there in
      let low = at.within in
      let long = length-take-le i order (omega (arith, within)) in
      let k_low : k < i = omega (arith, low, long) in
      let is = ap (λ y. get_or positions y 0) (sym (get_or-take i order k 0 k_low) ∙ at.here) in
      let there_is = are.there k k_low in
      omega (arith, is, there_is, none)

  pub positions_more : get_or order i 0 < length positions → get_or positions (get_or order i 0) 0 ≡ 0
      → ArePositionsBelow order (set positions (get_or order i 0) (i + 1)) (i + 1)
  positions_more low none =
      let x = get_or order i 0 in
      record {
        there =
            λ k less. elim (cases_eq k i) [
              | inl is ↦
                  ap (λ j. get_or (set positions x (i + 1)) (get_or order j 0) 0) is
                  ∙ get_or-set_same positions x (i + 1) 0 low ∙ ap (λ j. j + 1) (sym is)
              | inr other ↦
                  let k_low : k < i = omega (arith, less, other) in
                  get_or-set_other positions x (get_or order k 0) (i + 1) 0
                  (λ same. let one = are.there k k_low in
                  let is = ap (λ y. get_or positions y 0) same in omega (arith, one, is, none))
                  ∙ are.there k k_low
            ];
        back =
            λ y k is. elim (cases_eq y x) [
              | inl same ↦
                  let now = ap (λ z. get_or (set positions x (i + 1)) z 0) (sym same) in
                  let new = get_or-set_same positions x (i + 1) 0 low in
                  let k_is : k ≡ i = omega (arith, now, new, is) in
                  (omega (arith, k_is), ap (λ j. get_or order j 0) k_is ∙ sym same)
              | inr other ↦
                  let (less, here) = are.back y k (sym (get_or-set_other positions x y (i + 1) 0 other) ∙ is) in
                  (omega (arith, less), here)
            ];
        once =
            λ b. elim (cases_eq x b) [
              | inl same ↦
                  let no = times_none b (take i order) (subst (λ z. ¬ Contains (take i order) z) same (not_yet x none)) in
                  omega (arith, times_more b order i within, one_if-is b x same, no)
              | inr other ↦
                  let before = are.once b in
                  omega (arith, times_more b order i within, one_if-not b x other, before)
            ];
      }

  -- a label that has its position already is in the list twice
  pub twice : ¬ (get_or positions (get_or order i 0) 0 ≡ 0) → ¬ EachOnce order
  twice some once =
      let x = get_or order i 0 in
      let p = get_or positions x 0 in
      let (less, here) = are.back x (p - 1) (omega (arith, some)) in
      let long = length-take-le i order (omega (arith, within)) in
      let there : Contains (take i order) x =
      subst (Contains (take i order)) (get_or-take i order (p - 1) 0 less ∙ here)
      (Contains-get_or (take i order) (p - 1) 0 (omega (arith, long, less))) in
      let first = times-there x (take i order) there in
      let all = ap (times x) (take-append-drop (i + 1) order) in
      let parts = times_append x (take (i + 1) order) (drop (i + 1) order) in
      let one = once_each order once x in
      omega (arith, times_more x order i within, one_if-is x x refl, first, all, parts, one)

  -- a label that can have no position is not below the count
  pub beyond : (count : ℕ) → length positions ≡ count → length positions ≤ get_or order i 0 → ¬ HasEachBelow count order
  beyond count long past each =
      let low = (each.all (get_or order i 0)).1 (Contains-get_or order i 0 within) in
      omega (arith, long, past, low)

module _ (count : ℕ) (order positions : List ℕ) (long : length positions ≡ count)
    (are : ArePositionsBelow order positions (length order)) where
  pub some_missing : Contains positions 0 → ¬ HasEachBelow count order
  some_missing (b, within, is) each =
      let none : get_or positions b 0 ≡ 0 = is in
      let (k, at) = position_in order b ((each.all b).0 (omega (arith, within, long))) in
      let low = at.within in
      let positioned = are.there k low in
      let same = ap (λ y. get_or positions y 0) at.here in
      omega (arith, positioned, same, none)

  pub all_positioned : ¬ Contains positions 0 → HasEachBelow count order
  all_positioned full = record {
    once = each_once order (λ b. subst (λ xs. times b xs ≤ 1) (take_all (length order) order (omega arith)) (are.once b));
    all =
        λ b. (
          (λ less.
              let within : b < length positions = omega (arith, less, long) in
              let p = get_or positions b 0 in
              elim (cases_eq p 0) [
                | inl none ↦ absurd (full (b, within, none))
                | inr some ↦
                    let (k_low, here) = are.back b (p - 1) (omega (arith, some)) in
                    subst (Contains order) here (Contains-get_or order (p - 1) 0 k_low)
              ]),
          (λ there.
              let (k, at) = position_in order b there in
              let low = at.within in
              let positioned = are.there k low in
              let same = ap (λ y. get_or positions y 0) at.here in
              elim (cases_lt b (length positions)) [
                | inl within ↦ omega (arith, within, long)
                | inr past ↦
                    let nothing = get_or_past positions b 0 (omega (arith, past)) in
                    absurd (omega (arith, nothing, positioned, same))
              ]),
        );
  }

  pub are_positions : ArePositions order positions
  are_positions a b = (
    (λ is.
        let parts = and_parts (nat_lt 0 (get_or positions a 0)) (nat_lt (get_or positions a 0) (get_or positions b 0)) is in
        let first = ltb-true 0 (get_or positions a 0) parts.0 in
        let less = ltb-true (get_or positions a 0) (get_or positions b 0) parts.1 in
        let (i_low, i_is) = are.back a (get_or positions a 0 - 1) (omega (arith, first)) in
        let (j_low, j_is) = are.back b (get_or positions b 0 - 1) (omega (arith, first, less)) in
        subst (λ y. IsBefore order a y) j_is (subst (λ x. IsBefore order x (get_or order (get_or positions b 0 - 1) 0)) i_is
        (before_by_position order (get_or positions a 0 - 1) (get_or positions b 0 - 1) (omega (arith, first, less)) j_low))),
    (λ before.
        let (i, j, less, first, second) = positions_in order a b before in
        let a_is = sym (ap (λ y. get_or positions y 0) first.here) ∙ are.there i first.within in
        let b_is = sym (ap (λ y. get_or positions y 0) second.here) ∙ are.there j second.within in
        and_from (nat_lt 0 (get_or positions a 0)) (nat_lt (get_or positions a 0) (get_or positions b 0))
        (lt-ltb 0 (get_or positions a 0) (omega (arith, a_is)))
        (lt-ltb (get_or positions a 0) (get_or positions b 0) (omega (arith, a_is, b_is, less)))),
  )

-- the last position of one more label
pub last_more : (positions labels : List ℕ) (i last next : ℕ) → i < length labels
    → IsLastPosition positions (take i labels) last → last ≤ next → get_or positions (get_or labels i 0) 0 ≤ next
    → (next ≡ last) ⊎ (next ≡ get_or positions (get_or labels i 0) 0) → IsLastPosition positions (take (i + 1) labels) next
last_more positions labels i last next within are kept reached is = record {
  most =
      λ c there. elim (in_more labels i c within there) [
        | inl before ↦ let low = are.most c before in omega (arith, low, kept)
        | inr here ↦ subst (λ x. get_or positions x 0 ≤ next) here reached
      ];
  some =
      λ above. elim is [
        | inl same ↦
            let (c, there, at) = are.some (subst (λ n. 0 < n) same above) in
            (c, still_in labels i c within there, at ∙ sym same)
        | inr new ↦ (get_or labels i 0, last_in labels i within, sym new)
      ];
}

-- an order meets a condition exactly if each label of one side has a position below the last one of the other side
module _ (order positions : List ℕ) (are : ArePositions order positions) (condition : Condition) (last : ℕ)
    (is_last : IsLastPosition positions condition.after last) where
  pub meets_there : ((b : ℕ) → Contains condition.before b → (0 < get_or positions b 0) × (get_or positions b 0 < last))
      → Meets order condition
  meets_there low b there =
      let (some, less) = low b there in
      let (c, later, at) = is_last.some (omega (arith, some, less)) in
      let further : get_or positions b 0 < get_or positions c 0 = omega (arith, less, at) in (
        c,
        later,
        (are b c).0 (and_from (nat_lt 0 (get_or positions b 0)) (nat_lt (get_or positions b 0) (get_or positions c 0))
            (lt-ltb 0 (get_or positions b 0) some) (lt-ltb (get_or positions b 0) (get_or positions c 0) further)),
      )

  pub there_meets : Meets order condition → (b : ℕ) → Contains condition.before b
      → (0 < get_or positions b 0) × (get_or positions b 0 < last)
  there_meets meets b there =
      let (c, later, before) = meets b there in
      let parts = and_parts (nat_lt 0 (get_or positions b 0)) (nat_lt (get_or positions b 0) (get_or positions c 0))
      ((are b c).1 before) in
      let some = ltb-true 0 (get_or positions b 0) parts.0 in
      let less = ltb-true (get_or positions b 0) (get_or positions c 0) parts.1 in
      let most = is_last.most c later in
      (some, omega (arith, less, most))
