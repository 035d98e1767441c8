-- Admitted updates are admitted in any order in which what each one needs is inserted before it.
use Rattle.std.proofs.Common.{◌≡◌, ℕ, ◌+◌, ◌≤◌, List, [], ◌∷◌, ◌++◌, Some, refl, sym, ap, ◌∙◌, subst, inl, inr, arith, append_assoc}
use Rattle.std.specs.Prelude.{◌==◌, ◌⊎◌, Contains, if◌then◌else◌}
use Rattle.std.specs.List.{sum_by}
use Rattle.std.specs.List.Sorted.{IsPermutation}
use Rattle.std.proofs.lemmas.Bool.{cases_Bool, cond-true, cond-false, eq-eqb, eqb-true, eqb-false}
use Rattle.std.proofs.lemmas.List.Elements.{Contains-append_right}
use Rattle.std.proofs.lemmas.List.Sorted.{IsPermutation-sym, Contains-permutation, sum_by-IsPermutation}
use Rattle.std.proofs.lemmas.List.Sums.{sum_by-append, sum_by-cons}
use Rattle.ra_labels.proofs.Members.{head_or_behind, at_head, none_there}
use Rattle.ra_labels.specs.declared.list_operation.ListUpdate.{ListUpdate}
use Rattle.ra_labels.specs.declared.list_operation.ListUpdate.TheVariants.{Put, Hide}
use Rattle.ra_labels.specs.FreeList.{ListState, empty_list, list_step, list_state_from, list_state_after}
use Rattle.ra_list_model.specs.Kept.{Puts, Needs}
use Rattle.ra_list_model.proofs.AdmittedUpdates.{PutsOne, puts_head, puts_behind, puts_cases, led_from, step_inserted, inserted_from}
use Rattle.ra_list_model.proofs.KeptUpdates.{no_second, step_again}
use Rattle.ra_list_model.proofs.LateUpdates.{step_behind}

-- 1 if the update inserts the element, else 0
abbrev puts_one : ℕ → ListUpdate → ℕ
puts_one x (Put insertion) = if insertion.element == x then 1 else 0
puts_one x (Hide y) = 0

one_put : (update : ListUpdate) (x : ℕ) → PutsOne update x → puts_one x update ≡ 1
one_put (Put insertion) x puts = cond-true (insertion.element == x) 1 0 (eq-eqb insertion.element x puts)
one_put (Hide y) x puts = absurd puts

no_put : (update : ListUpdate) (x : ℕ) → ¬ PutsOne update x → puts_one x update ≡ 0
no_put (Put insertion) x not_put = elim (cases_Bool (insertion.element == x)) [
  | inl same ↦ absurd (not_put (eqb-true insertion.element x same))
  | inr other ↦ cond-false (insertion.element == x) 1 0 other
]
no_put (Hide y) x not_put = refl

puts_or_not : (update : ListUpdate) (x : ℕ) → PutsOne update x ⊎ (¬ PutsOne update x)
puts_or_not (Put insertion) x = elim (cases_Bool (insertion.element == x)) [
  | inl same ↦ inl (eqb-true insertion.element x same)
  | inr other ↦ inr (eqb-false insertion.element x other)
]
puts_or_not (Hide y) x = inr (λ none. none)

-- the number of updates that insert the element
abbrev times : ℕ → List ListUpdate → ℕ
times x updates = sum_by (puts_one x) updates

one_more_time : (update : ListUpdate) (updates : List ListUpdate) (x : ℕ)
    → times x (update ∷ updates) ≡ puts_one x update + times x updates
one_more_time update updates x = sum_by-cons (puts_one x) update updates

never : (updates : List ListUpdate) (x : ℕ) → ¬ Puts x updates → times x updates ≡ 0
never [] x none = refl
never (update ∷ updates) x none =
    let here = no_put update x (λ puts. none (puts_head update updates x puts)) in
    let further = never updates x (λ puts. none (puts_behind update updates x puts)) in
    omega (arith, one_more_time update updates x, here, further)

at_least_once : (updates : List ListUpdate) (x : ℕ) → Puts x updates → 1 ≤ times x updates
at_least_once [] x (insertion, there, is) = absurd (none_there (Put insertion) there)
at_least_once (update ∷ updates) x puts = elim (puts_cases update updates x puts) [
  | inl here ↦ omega (arith, one_more_time update updates x, one_put update x here)
  | inr further ↦ omega (arith, one_more_time update updates x, at_least_once updates x further)
]

-- admitted updates insert an element at most once
at_most_once : (updates : List ListUpdate) (s t : ListState) (x : ℕ) → list_state_from (Some s) updates ≡ Some t
    → times x updates ≤ 1
at_most_once [] s t x led = omega arith
at_most_once (update ∷ updates) s t x led =
    let (r, step, on) = led_from (list_step s update) updates t led in
    elim (puts_or_not update x) [
      | inl here ↦
          let none = never updates x (no_second updates r t x on ((step_inserted s r update x step).1 (inl here))) in
          omega (arith, one_more_time update updates x, one_put update x here, none)
      | inr other ↦
          omega (arith, one_more_time update updates x, no_put update x other, at_most_once updates r t x on)
    ]

-- each admitted update is admitted by some state
admitted_by : (updates : List ListUpdate) (s t : ListState) (update : ListUpdate)
    → list_state_from (Some s) updates ≡ Some t → Contains updates update
    → (p r : ListState) × (list_step p update ≡ Some r)
admitted_by [] s t update led there = absurd (none_there update there)
admitted_by (first ∷ updates) s t update led there =
    let (r, step, on) = led_from (list_step s first) updates t led in
    elim (head_or_behind first updates update there) [
      | inl here ↦ (s, r, subst (λ u. list_step s u ≡ Some r) here step)
      | inr further ↦ admitted_by updates r t update on further
    ]

-- holds if each element that an update needs is inserted before it
abbrev NeedsAreFirst : List ListUpdate → Type 0
NeedsAreFirst updates = (before behind : List ListUpdate) (update : ListUpdate) (x : ℕ)
    → updates ≡ before ++ update ∷ behind → Needs update x → Puts x before

module _ (updates others : List ListUpdate) (state : ListState) (led : list_state_after updates ≡ Some state)
    (moved : IsPermutation updates others) (ready : NeedsAreFirst others) where
  -- in the other order as well, an element is inserted at most once
  not_before : (before behind : List ListUpdate) (update : ListUpdate) (x : ℕ) → others ≡ before ++ update ∷ behind
      → PutsOne update x → ¬ Puts x before
  not_before before behind update x is here puts =
      let once = at_most_once updates empty_list state x led in
      let same : times x others ≡ times x updates = sum_by-IsPermutation (puts_one x) updates others moved in
      let parts : times x (before ++ update ∷ behind) ≡ times x before + times x (update ∷ behind) =
      sum_by-append (puts_one x) before (update ∷ behind) in
      let whole : times x others ≡ times x before + times x (update ∷ behind) = ap (times x) is ∙ parts in
      omega (
        arith,
        once,
        same,
        whole,
        one_more_time update behind x,
        one_put update x here,
        at_least_once before x puts,
      )

  one_admitted : (before behind : List ListUpdate) (update : ListUpdate) (t : ListState)
      → others ≡ before ++ update ∷ behind → list_state_after before ≡ Some t
      → (v : ListState) × (list_step t update ≡ Some v)
  one_admitted before behind update t is so_far =
      let there : Contains others update =
      subst (λ us. Contains us update) (sym is)
      (Contains-append_right before (update ∷ behind) update (at_head update behind update refl)) in
      let (p, r, step) = admitted_by updates empty_list state update led
      (Contains-permutation others updates update (IsPermutation-sym updates others moved) there) in
      step_again p r t update step
      (λ x needs was. (inserted_from before empty_list t x so_far).1 (inr (ready before behind update x is needs)))
      (λ x here found. elim ((inserted_from before empty_list t x so_far).0 found) [
        | inl none ↦ none_there x none
        | inr puts ↦ not_before before behind update x is here puts
      ])

  all_admitted : (behind before : List ListUpdate) (t : ListState) → others ≡ before ++ behind
      → list_state_after before ≡ Some t → (other : ListState) × (list_state_from (Some t) behind ≡ Some other)
  all_admitted [] before t is so_far = (t, refl)
  all_admitted (update ∷ behind) before t is so_far =
      let (v, step) = one_admitted before behind update t is so_far in
      let (other, on) = all_admitted behind (before ++ update ∷ []) v
      (is ∙ sym (append_assoc before (update ∷ []) behind)) (step_behind before update t v so_far step) in
      (other, ap (λ o. list_state_from o behind) step ∙ on)

pub reordered_admitted : (updates others : List ListUpdate) (state : ListState)
    → list_state_after updates ≡ Some state → IsPermutation updates others
    → ((before behind : List ListUpdate) (update : ListUpdate) (x : ℕ) → others ≡ before ++ update ∷ behind
    → Needs update x → Puts x before)
    → (other : ListState) × (list_state_after others ≡ Some other)
reordered_admitted updates others state led moved ready =
    all_admitted updates others state led moved ready others [] empty_list refl refl
