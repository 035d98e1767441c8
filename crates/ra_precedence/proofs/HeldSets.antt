-- Lemmas on lists, and on the condition that holds a set of labels back.
use Rattle.std.proofs.Common.{◌≡◌, ℕ, ◌+◌, ◌<◌, ◌≤◌, Bool, true, false, List, [], ◌∷◌, ◌++◌, length, get_or, take, filter, sym, ap, ◌∙◌, subst, inl, inr, arith, length-append}
use Rattle.std.specs.Prelude.{◌⊎◌, Contains}
use Rattle.std.proofs.lemmas.Bool.{false≢true, cases_Bool, cases_lt, cond-true, cond-false}
use Rattle.std.proofs.Math.Seq.{get_or-append_seam}
use Rattle.std.proofs.lemmas.List.{get_or_append_left}
use Rattle.ra_labels.specs.Edges.{EachOnce, IsBefore}
use Rattle.ra_labels.proofs.Members.{none_there, kept-there}
use Rattle.ra_precedence.specs.Conditions.{Condition, no_condition, condition_at, NameOnlyBelow}
use Rattle.ra_precedence.specs.Placing.{times, open_count, AreUses}
use Rattle.ra_precedence.specs.Lasts.{holding}
use Rattle.ra_precedence.proofs.Times.{one_if-is, times_head, times_append, times-there, once_each}
use Rattle.ra_precedence.proofs.StuckSets.{once_behind}

-- ---- lists

pub before_right : (xs ys : List ℕ) (a b : ℕ) → IsBefore ys a b → IsBefore (xs ++ ys) a b
before_right [] ys a b is = is
before_right (x ∷ xs) ys a b is = inr (before_right xs ys a b is)

pub before_kept : (p : ℕ → Bool) (xs : List ℕ) (a b : ℕ) → p a ≡ true → p b ≡ true → IsBefore xs a b
    → IsBefore (filter p xs) a b
before_kept p [] a b first second is = absurd is
before_kept p (x ∷ xs) a b first second is = elim (cases_Bool (p x)) [
  | inl keeps ↦ subst (λ ys. IsBefore ys a b) (sym (cond-true (p x) (x ∷ filter p xs) (filter p xs) keeps)) (elim is [
    | inl here ↦ inl (here.0, kept-there p xs b here.1 second)
    | inr further ↦ inr (before_kept p xs a b first second further)
  ])
  | inr drops ↦ subst (λ ys. IsBefore ys a b) (sym (cond-false (p x) (x ∷ filter p xs) (filter p xs) drops)) (elim is [
    | inl here ↦ absurd (false≢true (sym drops ∙ ap p here.0 ∙ first))
    | inr further ↦ before_kept p xs a b first second further
  ])
]

pub times_kept : (p : ℕ → Bool) (xs : List ℕ) (b : ℕ) → times b (filter p xs) ≤ times b xs
times_kept p [] b = omega arith
times_kept p (x ∷ xs) b =
    let rest = times_kept p xs b in
    let all = times_head b x xs in
    elim (cases_Bool (p x)) [
      | inl keeps ↦
          let is = ap (times b) (cond-true (p x) (x ∷ filter p xs) (filter p xs) keeps) in
          let kept = times_head b x (filter p xs) in
          omega (arith, rest, all, is, kept)
      | inr drops ↦
          let is = ap (times b) (cond-false (p x) (x ∷ filter p xs) (filter p xs) drops) in
          omega (arith, rest, all, is)
    ]

-- in a list that has each number once, what stands behind one of the later numbers is later too
pub before_rest : (front rest : List ℕ) (a b : ℕ) → EachOnce (front ++ rest) → Contains rest a → IsBefore (front ++ rest) a b
    → IsBefore rest a b
before_rest [] rest a b once there is = is
before_rest (x ∷ front) rest a b once there is = elim is [
  | inl here ↦
      let twice = once_each (x ∷ front ++ rest) once a in
      let first = times_head a x (front ++ rest) in
      let more = times_append a front rest in
      let some = times-there a rest there in
      absurd (omega (arith, twice, first, more, some, one_if-is a x here.0))
  | inr further ↦ before_rest front rest a b (once_behind x (front ++ rest) once) there further
]

pub rest_once : (front rest : List ℕ) → EachOnce (front ++ rest) → EachOnce rest
rest_once [] rest once = once
rest_once (x ∷ front) rest once = rest_once front rest (once_behind x (front ++ rest) once)

-- ---- the condition that holds the set back

module _ (count : ℕ) (conditions : List Condition) (set : List ℕ) where
  -- the conditions with the one that holds the set back
  abbrev pub held : List Condition
  held = conditions ++ holding set ∷ []

  pub at_low : (i : ℕ) → i < length conditions → condition_at held i ≡ condition_at conditions i
  at_low i low = get_or_append_left conditions (holding set ∷ []) no_condition i low

  pub at_last : condition_at held (length conditions) ≡ holding set
  at_last = get_or-append_seam conditions (holding set) [] no_condition

  -- an index of these conditions is one of the first, or the last one
  pub low_or_last : (i : ℕ) → i < length held → (i < length conditions) ⊎ (i ≡ length conditions)
  low_or_last i within = elim (cases_lt i (length conditions)) [
    | inl low ↦ inl low
    | inr high ↦ inr (let long = length-append conditions (holding set ∷ []) in omega (arith, within, high, long))
  ]

  pub within_held : (i : ℕ) → i < length conditions → i < length held
  within_held i low = let long = length-append conditions (holding set ∷ []) in omega (arith, low, long)

  pub named_held : NameOnlyBelow count conditions → ((b : ℕ) → Contains set b → b < count) → NameOnlyBelow count held
  named_held named below = record {
    before = λ i b within there. elim (low_or_last i within) [
      | inl low ↦ named.before i b low (subst (λ (h : Condition). Contains h.before b) (at_low i low) there)
      | inr last ↦
          below b (subst (λ (h : Condition). Contains h.before b) (ap (condition_at held) last ∙ at_last) there)
    ];
    after = λ i c within there. elim (low_or_last i within) [
      | inl low ↦ named.after i c low (subst (λ (h : Condition). Contains h.after c) (at_low i low) there)
      | inr last ↦
          absurd (none_there c (subst (λ (h : Condition). Contains h.after c) (ap (condition_at held) last ∙ at_last) there))
    ];
  }

  pub uses_held : (uses : List (List ℕ)) → AreUses conditions uses → AreUses held uses
  uses_held uses are c i = (
    (λ there.
        let (low, after) = (are c i).0 there in
        (within_held i low, subst (λ (h : Condition). Contains h.after c) (sym (at_low i low)) after)),
    (λ both. elim (low_or_last i both.0) [
      | inl low ↦ (are c i).1 (low, subst (λ (h : Condition). Contains h.after c) (at_low i low) both.1)
      | inr last ↦
          absurd (none_there c (subst (λ (h : Condition). Contains h.after c) (ap (condition_at held) last ∙ at_last) both.1))
    ]),
  )

-- the conditions before the last one count without it
pub open_split : (conditions : List Condition) (last : Condition) (met : List Bool) (b : ℕ)
    → length met ≡ length conditions + 1 → get_or met (length conditions) false ≡ false
    → open_count (conditions ++ last ∷ []) met b
    ≡ open_count conditions (take (length conditions) met) b + times b last.before
open_split [] last [] b len unmet = absurd (omega (arith, len))
open_split [] last (is_met ∷ met) b len unmet =
    let is = cond-false is_met 0 (times b last.before) unmet in omega (arith, is)
open_split (condition ∷ conditions) last [] b len unmet = absurd (omega (arith, len))
open_split (condition ∷ conditions) last (is_met ∷ met) b len unmet =
    let rest = open_split conditions last met b (omega (arith, len)) unmet in omega (arith, rest)
