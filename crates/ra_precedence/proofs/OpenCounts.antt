-- How many times a label is in `before` of the conditions that are not met.
use Rattle.std.proofs.Common.{◌≡◌, ℕ, zero, suc, ◌+◌, ◌<◌, Bool, true, false, List, [], ◌∷◌, length, get_or, set, refl, inl, inr, arith}
use Rattle.std.specs.Prelude.{Contains, if◌then◌else◌}
use Rattle.std.proofs.lemmas.Bool.{cases_Bool, cases_eq, cond-true, cond-false}
use Rattle.ra_precedence.specs.Conditions.{Condition, condition_at}
use Rattle.ra_precedence.specs.Placing.{times, open_count}
use Rattle.ra_precedence.proofs.Times.{times-there, there-times}

-- how many times the label is in `before`, if the condition is not met
abbrev open_in : Condition → Bool → ℕ → ℕ
open_in condition is_met b = if is_met then 0 else times b condition.before

-- a condition that becomes met no longer counts
pub open_met : (conditions : List Condition) (met : List Bool) (i b : ℕ) → length met ≡ length conditions
    → i < length conditions → get_or met i false ≡ false
    → open_count conditions (set met i true) b + times b (condition_at conditions i).before ≡ open_count conditions met b
open_met [] met i b len low unmet = absurd (omega (arith, low))
open_met (condition ∷ conditions) [] i b len low unmet = absurd (omega (arith, len))
open_met (condition ∷ conditions) (is_met ∷ met) zero b len low unmet =
    let was : open_in condition is_met b ≡ times b condition.before = cond-false is_met 0 (times b condition.before) unmet in
    omega (arith, was)
open_met (condition ∷ conditions) (is_met ∷ met) (suc i) b len low unmet =
    let rest = open_met conditions met i b (omega (arith, len)) (omega (arith, low)) unmet in
    omega (arith, rest)

-- a label that is open nowhere is in `before` of met conditions alone
pub open_zero : (conditions : List Condition) (met : List Bool) (i b : ℕ) → length met ≡ length conditions
    → open_count conditions met b ≡ 0 → i < length conditions → Contains (condition_at conditions i).before b
    → get_or met i false ≡ true
open_zero [] met i b len none low there = absurd (omega (arith, low))
open_zero (condition ∷ conditions) [] i b len none low there = absurd (omega (arith, len))
open_zero (condition ∷ conditions) (is_met ∷ met) zero b len none low there = elim (cases_Bool is_met) [
  | inl done ↦ done
  | inr still ↦
      let some = times-there b condition.before there in
      let was : open_in condition is_met b ≡ times b condition.before = cond-false is_met 0 (times b condition.before) still in
      absurd (omega (arith, none, some, was))
]
open_zero (condition ∷ conditions) (is_met ∷ met) (suc i) b len none low there =
    open_zero conditions met i b (omega (arith, len)) (omega (arith, none)) (omega (arith, low)) there

-- a label that is open somewhere is in `before` of a condition that is not met
pub open_some : (conditions : List Condition) (met : List Bool) (b : ℕ) → length met ≡ length conditions
    → 0 < open_count conditions met b
    → (i : ℕ) × (i < length conditions) × (get_or met i false ≡ false) × Contains (condition_at conditions i).before b
open_some [] met b len some = absurd (omega (arith, some))
open_some (condition ∷ conditions) [] b len some = absurd (omega (arith, len))
open_some (condition ∷ conditions) (is_met ∷ met) b len some =
    let later : 0 < open_count conditions met b → (i : ℕ) × (i < length (condition ∷ conditions))
    × (get_or (is_met ∷ met) i false ≡ false) × Contains (condition_at (condition ∷ conditions) i).before b
    = λ further.
    let (i, low, unmet, there) = open_some conditions met b (omega (arith, len)) further in
    (suc i, omega (arith, low), unmet, there) in
    elim (cases_Bool is_met) [
      | inl done ↦
          let was : open_in condition is_met b ≡ 0 = cond-true is_met 0 (times b condition.before) done in
          later (omega (arith, some, was))
      | inr still ↦ elim (cases_eq (times b condition.before) 0) [
        | inl none ↦
            let was : open_in condition is_met b ≡ times b condition.before = cond-false is_met 0 (times b condition.before) still in
            later (omega (arith, some, was, none))
        | inr here ↦ (zero, omega arith, still, there-times b condition.before (omega (arith, here)))
      ]
    ]

-- conditions of which none is met count as ones of which nothing is known
pub open_unmet : (conditions : List Condition) (met : List Bool) (b : ℕ) → ((i : ℕ) → get_or met i false ≡ false)
    → open_count conditions met b ≡ open_count conditions [] b
open_unmet [] met b unmet = refl
open_unmet (condition ∷ conditions) [] b unmet = refl
open_unmet (condition ∷ conditions) (is_met ∷ met) b unmet =
    let first : open_in condition is_met b ≡ times b condition.before = cond-false is_met 0 (times b condition.before) (unmet 0) in
    let rest = open_unmet conditions met b (λ i. unmet (suc i)) in
    omega (arith, first, rest)
