-- Releasing labels: each number goes down by one for each time its label is listed.
use Rattle.std.proofs.Common.{◌≡◌, ℕ, ◌+◌, ◌-◌, ◌<◌, ◌≤◌, List, [], ◌∷◌, ◌++◌, length, get_or, set, take, refl, sym, ap, ◌∙◌, subst, inl, inr, arith}
use Rattle.std.specs.Prelude.{◌==◌, if◌then◌else◌}
use Rattle.std.proofs.lemmas.Bool.{cases_eq, cases_lt, eq-eqb, ne_eqb, cond-true, cond-false}
use Rattle.std.proofs.lemmas.List.{get_or-set_same, get_or-set_other, get_or_past, append_assoc, append-nil}
use Rattle.std.proofs.lemmas.List.Sums.{sum_by-take-le}
use Rattle.std.proofs.lemmas.Grind.{get_or_default_zero}
use Rattle.ra_precedence.specs.Placing.{times, AreReleased}
use Rattle.ra_precedence.proofs.Times.{one_if, one_if-is, one_if-not, times_head, times_append, times_more}

-- how many times a label is placed that is listed t times, and whose number is n afterwards
abbrev pub times_placed : ℕ → ℕ → ℕ
times_placed t n = if t == 0 then 0 else if n == 0 then 1 else 0

pub placed_not : (t n : ℕ) → 0 < n → times_placed t n ≡ 0
placed_not t n some = elim (cases_eq t 0) [
  | inl none ↦ cond-true (t == 0) 0 (if n == 0 then 1 else 0) (eq-eqb t 0 none)
  | inr listed ↦
      cond-false (t == 0) 0 (if n == 0 then 1 else 0) (ne_eqb t 0 listed)
      ∙ cond-false (n == 0) 1 0 (ne_eqb n 0 (λ is. omega (arith, some, is)))
]

pub placed_once : (t n : ℕ) → 0 < t → n ≡ 0 → times_placed t n ≡ 1
placed_once t n some none =
    cond-false (t == 0) 0 (if n == 0 then 1 else 0) (ne_eqb t 0 (λ is. omega (arith, some, is)))
    ∙ cond-true (n == 0) 1 0 (eq-eqb n 0 none)

pub placed_unlisted : (t n : ℕ) → t ≡ 0 → times_placed t n ≡ 0
placed_unlisted t n none = cond-true (t == 0) 0 (if n == 0 then 1 else 0) (eq-eqb t 0 none)

pub released_none : (numbers order : List ℕ) → AreReleased [] numbers numbers order order
released_none numbers order = record {
  each = λ b. omega arith;
  added = [];
  placed_is = sym (append-nil order);
  added_once = λ b. refl;
}

-- within the list if the number is not 0
pub listed_within : (numbers : List ℕ) (b : ℕ) → 0 < get_or numbers b 0 → b < length numbers
listed_within numbers b some = elim (cases_lt b (length numbers)) [
  | inl low ↦ low
  | inr high ↦ absurd (let past = get_or_past numbers b 0 high in omega (arith, some, past))
]

module _ (labels numbers now order placed : List ℕ) (i : ℕ) (within : i < length labels)
    (fits : (b : ℕ) → times b labels ≤ get_or numbers b 0)
    (released : AreReleased (take i labels) numbers now order placed) where
  abbrev label : ℕ
  label = get_or labels i 0

  -- the number of the next label is not 0 yet
  pub still_open : 0 < get_or now label 0
  still_open =
      let low = fits label in
      let each = released.each label in
      let upto = sum_by-take-le (one_if label) labels (i + 1) in
      omega (arith, low, each, upto, times_more label labels i within, one_if-is label label refl)

  module _ (next : List ℕ) (next_is : next ≡ set now label (get_or now label 0 - 1)) where
    next_here : get_or next label 0 ≡ get_or now label 0 - 1
    next_here =
        ap (λ numbers. get_or numbers label 0) next_is
        ∙ get_or-set_same now label (get_or now label 0 - 1) 0 (listed_within now label still_open)

    next_other : (b : ℕ) → ¬ (b ≡ label) → get_or next b 0 ≡ get_or now b 0
    next_other b other =
        ap (λ numbers. get_or numbers b 0) next_is
        ∙ get_or-set_other now label b (get_or now label 0 - 1) 0 other

    each_more : (b : ℕ) → get_or next b 0 + times b (take (i + 1) labels) ≡ get_or numbers b 0
    each_more b = elim (cases_eq b label) [
      | inl here ↦ subst (λ b. get_or next b 0 + times b (take (i + 1) labels) ≡ get_or numbers b 0) (sym here) (
          let each = released.each label in
          omega (arith, each, still_open, next_here, times_more label labels i within, one_if-is label label refl))
      | inr other ↦
          let each = released.each b in
          omega (
            arith,
            each,
            next_other b other,
            times_more b labels i within,
            one_if-not b label (λ is. other (sym is)),
          )
    ]

    -- the label is listed, and no other one is listed more often than before
    listed_here : 0 < times label (take (i + 1) labels)
    listed_here = omega (arith, times_more label labels i within, one_if-is label label refl)

    listed_other : (b : ℕ) → ¬ (b ≡ label) → times b (take (i + 1) labels) ≡ times b (take i labels)
    listed_other b other = omega (arith, times_more b labels i within, one_if-not b label (λ is. other (sym is)))

    -- the label was not placed before
    not_added : times label released.added ≡ 0
    not_added = released.added_once label ∙ placed_not (times label (take i labels)) (get_or now label 0) still_open

    same_other : (b : ℕ) → ¬ (b ≡ label)
        → times b released.added ≡ times_placed (times b (take (i + 1) labels)) (get_or next b 0)
    same_other b other =
        released.added_once b
        ∙ ap (λ t. times_placed t (get_or now b 0)) (sym (listed_other b other))
        ∙ ap (times_placed (times b (take (i + 1) labels))) (sym (next_other b other))

    pub placed_more : get_or next label 0 ≡ 0 → AreReleased (take (i + 1) labels) numbers next order (placed ++ label ∷ [])
    placed_more zero = record {
      each = each_more;
      added = released.added ++ label ∷ [];
      placed_is = ap (λ xs. xs ++ label ∷ []) released.placed_is ∙ append_assoc order released.added (label ∷ []);
      added_once = λ b. elim (cases_eq b label) [
        | inl here ↦
            subst (λ b. times b (released.added ++ label ∷ [])
            ≡ times_placed (times b (take (i + 1) labels)) (get_or next b 0)) (sym here)
            (omega (arith, times_append label released.added (label ∷ []), times_head label label [], one_if-is label label refl, not_added)
            ∙ sym (placed_once (times label (take (i + 1) labels)) (get_or next label 0) listed_here zero))
        | inr other ↦
            omega (arith, times_append b released.added (label ∷ []), times_head b label [], one_if-not b label (λ is. other (sym is)))
            ∙ same_other b other
      ];
    }

    pub kept_more : 0 < get_or next label 0 → AreReleased (take (i + 1) labels) numbers next order placed
    kept_more some = record {
      each = each_more;
      added = released.added;
      placed_is = released.placed_is;
      added_once = λ b. elim (cases_eq b label) [
        | inl here ↦
            subst (λ b. times b released.added ≡ times_placed (times b (take (i + 1) labels)) (get_or next b 0)) (sym here)
            (not_added ∙ sym (placed_not (times label (take (i + 1) labels)) (get_or next label 0) some))
        | inr other ↦ same_other b other
      ];
    }

  -- the label is within the numbers, and what is read there is its number
  pub label_within : label < length now
  label_within = listed_within now label still_open

  pub number_read : (read : ℕ) → read ≡ get_or now label read → read ≡ get_or now label 0
  number_read read is = is ∙ get_or_default_zero now label read label_within

  module _ (read left : ℕ) (next placed_next : List ℕ) (is : read ≡ get_or now label read) (left_is : left ≡ read - 1)
      (next_is : next ≡ set now label left) where
    next_set : next ≡ set now label (get_or now label 0 - 1)
    next_set = next_is ∙ ap (set now label) (left_is ∙ ap (λ n. n - 1) (number_read read is))

    left_read : get_or next label 0 ≡ left
    left_read = next_here next next_set ∙ ap (λ n. n - 1) (sym (number_read read is)) ∙ sym left_is

    pub after_zero : left ≡ 0 → placed_next ≡ placed ++ label ∷ []
        → AreReleased (take (i + 1) labels) numbers next order placed_next
    after_zero zero placed_is =
        subst (AreReleased (take (i + 1) labels) numbers next order) (sym placed_is)
        (placed_more next next_set (left_read ∙ zero))

    pub after_more : ¬ (left ≡ 0) → placed_next ≡ placed
        → AreReleased (take (i + 1) labels) numbers next order placed_next
    after_more some placed_is =
        subst (AreReleased (take (i + 1) labels) numbers next order) (sym placed_is)
        (kept_more next next_set (elim (cases_eq (get_or next label 0) 0) [
          | inl none ↦ absurd (some (sym left_read ∙ none))
          | inr other ↦ omega (arith, other)
        ]))
