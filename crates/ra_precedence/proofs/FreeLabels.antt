-- The labels that can be placed first.
use Rattle.std.proofs.Common.{◌≡◌, ℕ, ◌+◌, ◌<◌, ◌≤◌, Bool, false, List, [], ◌∷◌, ◌++◌, length, get_or, refl, sym, ap, ◌∙◌, subst, inl, inr, arith}
use Rattle.std.specs.Prelude.{◌==◌, ◌&&◌, nat_lt, Contains, if◌then◌else◌}
use Rattle.std.proofs.lemmas.Bool.{false≢true, cases_eq, cases_lt, eq-eqb, ne_eqb, lt-ltb, le-ltb, and_from, and_right, cond-true, cond-false}
use Rattle.ra_labels.proofs.Members.{none_there}
use Rattle.ra_precedence.specs.Conditions.{Condition, condition_at}
use Rattle.ra_precedence.specs.Placing.{times, AreOpenCounts, AreUsed}
use Rattle.ra_precedence.proofs.Times.{one_if-is, one_if-not, times_head, times_append, times-there}
use Rattle.ra_precedence.proofs.OpenCounts.{open_zero}

-- whether a label below n is free, as a number
abbrev pub free_below : List ℕ → ℕ → ℕ → ℕ
free_below numbers n b = if nat_lt b n && get_or numbers b 0 == 0 then 1 else 0

free_is : (numbers : List ℕ) (n b : ℕ) → b < n → get_or numbers b 0 ≡ 0 → free_below numbers n b ≡ 1
free_is numbers n b low none =
    cond-true (nat_lt b n && get_or numbers b 0 == 0) 1 0
    (and_from (nat_lt b n) (get_or numbers b 0 == 0) (lt-ltb b n low) (eq-eqb (get_or numbers b 0) 0 none))

free_high : (numbers : List ℕ) (n b : ℕ) → n ≤ b → free_below numbers n b ≡ 0
free_high numbers n b high =
    cond-false (nat_lt b n && get_or numbers b 0 == 0) 1 0
    (ap (λ t. t && get_or numbers b 0 == 0) (le-ltb b n high))

free_not : (numbers : List ℕ) (n b : ℕ) → ¬ (get_or numbers b 0 ≡ 0) → free_below numbers n b ≡ 0
free_not numbers n b some =
    cond-false (nat_lt b n && get_or numbers b 0 == 0) 1 0
    (and_right (nat_lt b n) (get_or numbers b 0 == 0) (ne_eqb (get_or numbers b 0) 0 some))

-- one more number changes nothing for other labels
free_other : (numbers : List ℕ) (n b : ℕ) → ¬ (b ≡ n) → free_below numbers (n + 1) b ≡ free_below numbers n b
free_other numbers n b other = elim (cases_eq (get_or numbers b 0) 0) [
  | inl none ↦ elim (cases_lt b n) [
    | inl low ↦ free_is numbers (n + 1) b (omega (arith, low)) none ∙ sym (free_is numbers n b low none)
    | inr high ↦ free_high numbers (n + 1) b (omega (arith, high, other)) ∙ sym (free_high numbers n b high)
  ]
  | inr some ↦ free_not numbers (n + 1) b some ∙ sym (free_not numbers n b some)
]

pub none_free : (numbers : List ℕ) (b : ℕ) → times b [] ≡ free_below numbers 0 b
none_free numbers b = sym (free_high numbers 0 b (omega arith))

pub free_more : (numbers labels more : List ℕ) (n : ℕ) → ((b : ℕ) → times b labels ≡ free_below numbers n b)
    → get_or numbers n 0 ≡ 0 → more ≡ labels ++ n ∷ [] → (b : ℕ) → times b more ≡ free_below numbers (n + 1) b
free_more numbers labels more n so_far none is b =
    ap (times b) is ∙ times_append b labels (n ∷ []) ∙ elim (cases_eq b n) [
      | inl here ↦ subst (λ b. times b labels + times b (n ∷ []) ≡ free_below numbers (n + 1) b) (sym here)
          (omega (arith, so_far n, free_high numbers n n (omega arith), times_head n n [], one_if-is n n refl)
          ∙ sym (free_is numbers (n + 1) n (omega arith) none))
      | inr other ↦
          omega (arith, times_head b n [], one_if-not b n (λ is. other (sym is)))
          ∙ so_far b ∙ sym (free_other numbers n b other)
    ]

pub free_same : (numbers labels : List ℕ) (n : ℕ) → ((b : ℕ) → times b labels ≡ free_below numbers n b)
    → ¬ (get_or numbers n 0 ≡ 0) → (b : ℕ) → times b labels ≡ free_below numbers (n + 1) b
free_same numbers labels n so_far some b = so_far b ∙ elim (cases_eq b n) [
  | inl here ↦ subst (λ b. free_below numbers n b ≡ free_below numbers (n + 1) b) (sym here)
      (free_not numbers n n some ∙ sym (free_not numbers (n + 1) n some))
  | inr other ↦ sym (free_other numbers n b other)
]

-- the labels that are free at first are placed, and none of them is used
pub placed_at_first : (conditions : List Condition) (met : List Bool) (numbers placed : List ℕ)
    → length met ≡ length conditions → ((i : ℕ) → get_or met i false ≡ false) → AreOpenCounts conditions met numbers
    → ((i b : ℕ) → i < length conditions → Contains (condition_at conditions i).before b → b < length numbers)
    → ((b : ℕ) → times b placed ≡ free_below numbers (length numbers) b) → AreUsed conditions met numbers placed 0
placed_at_first conditions met numbers placed len unmet numbers_are named free = record {
  placed_are = record {
    met_len = len;
    numbers_are = numbers_are;
    once = λ b low. free b ∙ elim (cases_eq (get_or numbers b 0) 0) [
      | inl none ↦
          free_is numbers (length numbers) b low none
          ∙ sym (cond-true (get_or numbers b 0 == 0) 1 0 (eq-eqb (get_or numbers b 0) 0 none))
      | inr some ↦
          free_not numbers (length numbers) b some
          ∙ sym (cond-false (get_or numbers b 0 == 0) 1 0 (ne_eqb (get_or numbers b 0) 0 some))
    ];
    below = λ b there. elim (cases_lt b (length numbers)) [
      | inl low ↦ low
      | inr high ↦
          let some = times-there b placed there in
          let free_b = free b in
          absurd (omega (arith, some, free_b, free_high numbers (length numbers) b high))
    ];
    by = λ i is. absurd (false≢true (sym (unmet i) ∙ is));
    in_turn = λ i b low there before.
        let some = times-there b placed there in
        let free_b = free b in
        elim (cases_eq (get_or numbers b 0) 0) [
          | inl none ↦
              absurd (false≢true (sym (unmet i) ∙ open_zero conditions met i b len (sym (numbers_are b) ∙ none) low before))
          | inr more ↦ absurd (omega (arith, some, free_b, free_not numbers (length numbers) b more))
        ];
  };
  all_met = λ c i mine. absurd (none_there c mine);
}
