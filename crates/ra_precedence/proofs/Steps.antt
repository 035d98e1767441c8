-- One more condition that is met, by a label that was placed.
use Rattle.std.proofs.Common.{◌≡◌, ℕ, ◌<◌, Bool, true, false, List, [], ◌∷◌, ◌++◌, length, get_or, set, sym, ap, ◌∙◌, subst, inl, inr, arith}
use Rattle.std.specs.Prelude.{◌==◌, ◌⊎◌, Contains, if◌then◌else◌}
use Rattle.std.proofs.lemmas.Bool.{false≢true, cases_Bool, cases_eq, cases_lt, eq-eqb, ne_eqb, cond-true, cond-false}
use Rattle.std.proofs.lemmas.List.{get_or-set_same, get_or-set_other, set-get_or, length-set, get_or_past, append-nil}
use Rattle.std.proofs.lemmas.List.Elements.{Contains-append_left, Contains-append_right, Contains-append_cases}
use Rattle.ra_labels.specs.Edges.{IsBefore}
use Rattle.ra_labels.proofs.Members.{head_or_behind, none_there}
use Rattle.ra_precedence.specs.Conditions.{Condition, condition_at}
use Rattle.ra_precedence.specs.Placing.{times, open_count, AreReleased, IsMet, ArePlaced, AreOpenCounts}
use Rattle.ra_precedence.proofs.Times.{times_append, times-there}
use Rattle.ra_precedence.proofs.OpenCounts.{open_met, open_zero}
use Rattle.ra_precedence.proofs.Releases.{placed_not, placed_once, placed_unlisted, listed_within}

-- what is met stays met
pub stays_met : (met : List Bool) (i j : ℕ) → get_or met j false ≡ true → get_or (set met i true) j false ≡ true
stays_met met i j is = elim (cases_eq j i) [
  | inl same ↦ elim (cases_lt i (length met)) [
    | inl low ↦ subst (λ k. get_or (set met i true) k false ≡ true) (sym same) (get_or-set_same met i true false low)
    | inr high ↦ absurd (false≢true (sym (get_or_past met j false (rw same high)) ∙ is))
  ]
  | inr other ↦ get_or-set_other met i j true false other ∙ is
]

-- what is met now was met before, or is the one that was met
met_before : (met : List Bool) (i j : ℕ) → get_or (set met i true) j false ≡ true → (get_or met j false ≡ true) ⊎ (j ≡ i)
met_before met i j is = elim (cases_eq j i) [
  | inl same ↦ inr same
  | inr other ↦ inl (sym (get_or-set_other met i j true false other) ∙ is)
]

-- what stands before in an order also does with more behind it, and all of the order stands before what is behind it
pub before_left : (xs ys : List ℕ) (a b : ℕ) → IsBefore xs a b → IsBefore (xs ++ ys) a b
before_left [] ys a b is = absurd is
before_left (x ∷ xs) ys a b (inl both) = inl (both.0, Contains-append_left xs ys b both.1)
before_left (x ∷ xs) ys a b (inr further) = inr (before_left xs ys a b further)

pub before_seam : (xs ys : List ℕ) (a b : ℕ) → Contains xs a → Contains ys b → IsBefore (xs ++ ys) a b
before_seam [] ys a b there behind = absurd (none_there a there)
before_seam (x ∷ xs) ys a b there behind = elim (head_or_behind x xs a there) [
  | inl here ↦ inl (here, Contains-append_right xs ys b behind)
  | inr further ↦ inr (before_seam xs ys a b further behind)
]

-- the number of times that a label is placed whose number is n
abbrev once_if_zero : ℕ → ℕ
once_if_zero n = if n == 0 then 1 else 0

module _ (conditions : List Condition) (met met_now : List Bool) (numbers now order placed used : List ℕ) (i c : ℕ)
    (there : i < length conditions) (uses : Contains (condition_at conditions i).after c) (was_used : Contains used c)
    (used_placed : (x : ℕ) → Contains used x → Contains order x) (as_long : length now ≡ length numbers)
    (are : ArePlaced conditions met numbers order used)
    (is : IsMet conditions i met met_now numbers now order placed) where
  abbrev condition : Condition
  condition = condition_at conditions i

  low : i < length met
  low = rw are.met_len there

  len_now : length met_now ≡ length conditions
  len_now = ap length is.met_is ∙ length-set met i true ∙ are.met_len

  by_now : (j : ℕ) → get_or met_now j false ≡ true → (x : ℕ) × Contains (condition_at conditions j).after x × Contains used x
  by_now j met_j = elim (met_before met i j (ap (λ m. get_or m j false) (sym is.met_is) ∙ met_j)) [
    | inl before ↦ are.by j before
    | inr same ↦ (c, subst (λ k. Contains (condition_at conditions k).after c) (sym same) uses, was_used)
  ]

  module _ (released : AreReleased condition.before numbers now order placed) (unmet : get_or met i false ≡ false) where
    numbers_now : AreOpenCounts conditions met_now now
    numbers_now b =
        let each = released.each b in
        let was = are.numbers_are b in
        let more = open_met conditions met i b are.met_len there unmet in
        let same = ap (λ m. open_count conditions m b) is.met_is in
        omega (arith, each, was, more, same)

    once_now : (b : ℕ) → b < length now → times b placed ≡ once_if_zero (get_or now b 0)
    once_now b below =
        let all = ap (times b) released.placed_is ∙ times_append b order released.added in
        let was = are.once b (rw (sym as_long) below) in
        let added = released.added_once b in
        let each = released.each b in
        elim (cases_eq (times b condition.before) 0) [
          | inl none ↦
              let nothing = placed_unlisted (times b condition.before) (get_or now b 0) none in
              let same : get_or now b 0 ≡ get_or numbers b 0 = omega (arith, each, none) in
              omega (arith, all, added, nothing) ∙ was ∙ ap once_if_zero (sym same)
          | inr listed ↦
              let not_there : once_if_zero (get_or numbers b 0) ≡ 0 = cond-false (get_or numbers b 0 == 0) 1 0
              (ne_eqb (get_or numbers b 0) 0 (λ none. listed (omega (arith, each, none)))) in
              elim (cases_eq (get_or now b 0) 0) [
                | inl none ↦
                    let once = placed_once (times b condition.before) (get_or now b 0) (omega (arith, listed)) none in
                    omega (arith, all, added, was, not_there, once)
                    ∙ sym (cond-true (get_or now b 0 == 0) 1 0 (eq-eqb (get_or now b 0) 0 none))
                | inr some ↦
                    let nothing = placed_not (times b condition.before) (get_or now b 0) (omega (arith, some)) in
                    omega (arith, all, added, was, not_there, nothing)
                    ∙ sym (cond-false (get_or now b 0 == 0) 1 0 (ne_eqb (get_or now b 0) 0 some))
              ]
        ]

    -- what was added is listed, and open nowhere any more
    added_listed : (b : ℕ) → Contains released.added b → 0 < times b condition.before
    added_listed b there = elim (cases_eq (times b condition.before) 0) [
      | inl none ↦
          let some = times-there b released.added there in
          let added = released.added_once b in
          let nothing = placed_unlisted (times b condition.before) (get_or now b 0) none in
          absurd (omega (arith, some, added, nothing))
      | inr listed ↦ omega (arith, listed)
    ]

    added_open : (b : ℕ) → Contains released.added b → get_or now b 0 ≡ 0
    added_open b there = elim (cases_eq (get_or now b 0) 0) [
      | inl none ↦ none
      | inr some ↦
          let once = times-there b released.added there in
          let added = released.added_once b in
          let nothing = placed_not (times b condition.before) (get_or now b 0) (omega (arith, some)) in
          absurd (omega (arith, once, added, nothing))
    ]

    in_either : (b : ℕ) → Contains placed b → Contains order b ⊎ Contains released.added b
    in_either b placed_b =
        Contains-append_cases order released.added b (subst (λ xs. Contains xs b) released.placed_is placed_b)

    below_now : (b : ℕ) → Contains placed b → b < length now
    below_now b placed_b = rw as_long (elim (in_either b placed_b) [
      | inl before ↦ are.below b before
      | inr added ↦
          let each = released.each b in
          let listed = added_listed b added in
          listed_within numbers b (omega (arith, each, listed))
    ])

    in_turn_now : (j b : ℕ) → j < length conditions → Contains placed b → Contains (condition_at conditions j).before b
        → (x : ℕ) × Contains (condition_at conditions j).after x × IsBefore placed x b
    in_turn_now j b low_j placed_b before_b =
        subst (λ xs. (x : ℕ) × Contains (condition_at conditions j).after x × IsBefore xs x b) (sym released.placed_is)
        (elim (in_either b placed_b) [
          | inl before ↦
              let (x, after, stands) = are.in_turn j b low_j before before_b in
              (x, after, before_left order released.added x b stands)
          | inr added ↦
              let met_j = open_zero conditions met_now j b len_now (sym (numbers_now b) ∙ added_open b added) low_j before_b in
              let (x, after, mine) = by_now j met_j in
              (x, after, before_seam order released.added x b (used_placed x mine) added)
        ])

    placed_released : ArePlaced conditions met_now now placed used
    placed_released = record {
      met_len = len_now;
      numbers_are = numbers_now;
      once = once_now;
      below = below_now;
      by = by_now;
      in_turn = in_turn_now;
    }

  -- the placed labels after the condition was met
  pub placed_now : ArePlaced conditions met_now now placed used
  placed_now = elim (cases_Bool (get_or met i false)) [
    | inl done ↦
        let same = is.same done in
        let met_same : met_now ≡ met = is.met_is ∙ ap (set met i) (sym done) ∙ set-get_or met i false in
        subst (λ m. ArePlaced conditions m now placed used) (sym met_same)
        (subst (λ n. ArePlaced conditions met n placed used) (sym same.0)
        (subst (λ p. ArePlaced conditions met numbers p used) (sym same.1) are))
    | inr unmet ↦ placed_released (is.released unmet) unmet
  ]

  -- what was placed stands behind the earlier ones
  pub grown : (more : List ℕ) × (placed ≡ order ++ more)
  grown = elim (cases_Bool (get_or met i false)) [
    | inl done ↦ ([], (is.same done).1 ∙ sym (append-nil order))
    | inr unmet ↦ let released = is.released unmet in (released.added, released.placed_is)
  ]
