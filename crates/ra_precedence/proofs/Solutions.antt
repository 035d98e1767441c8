-- What was placed is an order if nothing is open, and what is open is a stuck set.
use Rattle.std.proofs.Common.{◌≡◌, ℕ, ◌<◌, ◌≤◌, List, [], ◌∷◌, length, get_or, take, reverse, sym, ◌∙◌, subst, inl, inr, arith}
use Rattle.std.specs.Prelude.{◌↔◌, ◌==◌, Contains}
use Rattle.std.proofs.lemmas.Bool.{false≢true, cases_eq, cases_lt, eq-eqb, cond-true}
use Rattle.std.proofs.lemmas.List.{take_all, reverse-append, get_or_past}
use Rattle.std.proofs.lemmas.List.Elements.{Contains-get_or}
use Rattle.std.proofs.lemmas.List.Sorted.{IsPermutation-reverse, sum_by-IsPermutation}
use Rattle.ra_labels.specs.Edges.{IsBefore}
use Rattle.ra_labels.proofs.Members.{at_head}
use Rattle.ra_precedence.specs.Conditions.{Condition, no_condition, condition_at, MeetsAll, IsStuck, HasEachBelow, NameOnlyBelow}
use Rattle.ra_precedence.specs.Placing.{times, AllArePlaced}
use Rattle.ra_precedence.proofs.Times.{one_if, times-there, there-times, each_once}
use Rattle.ra_precedence.proofs.OpenCounts.{open_some}
use Rattle.ra_precedence.proofs.ReadAt.{read_at}
use Rattle.ra_precedence.proofs.Steps.{before_left, before_seam}

-- the reverse of a list
pub times_reverse : (b : ℕ) (xs : List ℕ) → times b (reverse xs) ≡ times b xs
times_reverse b xs = sum_by-IsPermutation (one_if b) xs (reverse xs) (IsPermutation-reverse xs)

pub in_reverse : (b : ℕ) (xs : List ℕ) → Contains xs b → Contains (reverse xs) b
in_reverse b xs there = there-times b (reverse xs) (let some = times-there b xs there in omega (arith, some, times_reverse b xs))

pub from_reverse : (b : ℕ) (xs : List ℕ) → Contains (reverse xs) b → Contains xs b
from_reverse b xs there = there-times b xs (let some = times-there b (reverse xs) there in omega (arith, some, times_reverse b xs))

pub before_reverse : (xs : List ℕ) (a b : ℕ) → IsBefore xs a b → IsBefore (reverse xs) b a
before_reverse [] a b is = absurd is
before_reverse (x ∷ xs) a b is = subst (λ ys. IsBefore ys b a) (sym (reverse-append (x ∷ []) xs)) (elim is [
  | inl both ↦ before_seam (reverse xs) (x ∷ []) b a (in_reverse b xs both.1) (at_head x [] a both.0)
  | inr further ↦ before_left (reverse xs) (x ∷ []) b a (before_reverse xs a b further)
])

module _ (count : ℕ) (conditions : List Condition) (numbers placed : List ℕ) (named : NameOnlyBelow count conditions)
    (len : length numbers ≡ count) (all : AllArePlaced conditions numbers placed) where
  -- a label below the count is placed exactly if it is open nowhere
  pub placed_times : (b : ℕ) → b < count → get_or numbers b 0 ≡ 0 → times b placed ≡ 1
  placed_times b low none =
      all.used.placed_are.once b (rw len low)
      ∙ cond-true (get_or numbers b 0 == 0) 1 0 (eq-eqb (get_or numbers b 0) 0 none)

  module _ (none : (b : ℕ) → get_or numbers b 0 ≡ 0) where
    once_below : (b : ℕ) → b < count → times b (reverse placed) ≡ 1
    once_below b low = times_reverse b placed ∙ placed_times b low (none b)

    once_at_most : (b : ℕ) → times b (reverse placed) ≤ 1
    once_at_most b = elim (cases_lt b count) [
      | inl low ↦ let once = once_below b low in omega (arith, once)
      | inr high ↦ elim (cases_eq (times b (reverse placed)) 0) [
        | inl not_there ↦ omega (arith, not_there)
        | inr some ↦
            let below = all.used.placed_are.below b
            (from_reverse b placed (there-times b (reverse placed) (omega (arith, some)))) in
            absurd (omega (arith, below, len, high))
      ]
    ]

    pub has_each : HasEachBelow count (reverse placed)
    has_each = record {
      once = each_once (reverse placed) once_at_most;
      all = λ b. (
        (λ low. there-times b (reverse placed) (let once = once_below b low in omega (arith, once))),
        (λ there. let below = all.used.placed_are.below b (from_reverse b placed there) in omega (arith, below, len)),
      );
    }

    pub meets_all : MeetsAll (reverse placed) conditions
    meets_all condition (i, low, is) b before =
        let same : condition ≡ condition_at conditions i = read_at conditions i no_condition condition low (sym is) in
        let mine = subst (λ (h : Condition). Contains h.before b) same before in
        let there = from_reverse b placed ((has_each.all b).0 (named.before i b low mine)) in
        let (c, after, stands) = all.used.placed_are.in_turn i b low there mine in (
          c,
          subst (λ (h : Condition). Contains h.after c) (sym same) after,
          before_reverse placed c b stands,
        )

  module _ (set : List ℕ) (set_is : (b : ℕ) → Contains set b ↔ (0 < get_or numbers b 0)) where
    -- a label that is placed has been used
    pub used_there : (c : ℕ) → Contains placed c → Contains (take (length placed) placed) c
    used_there c there = subst (λ xs. Contains xs c) (sym (take_all (length placed) placed (omega arith))) there

    pub stuck : 0 < length set → IsStuck conditions set
    stuck some = record {
      some = some;
      held = λ b there.
          let more = (set_is b).0 there in
          let (i, low, unmet, mine) = open_some conditions all.met b all.used.placed_are.met_len
          (let is = all.used.placed_are.numbers_are b in omega (arith, more, is)) in (
            condition_at conditions i,
            Contains-get_or conditions i no_condition low,
            record {
              before = mine;
              after = λ c after. (set_is c).1 (elim (cases_eq (get_or numbers c 0) 0) [
                | inl none ↦
                    let once = placed_times c (named.after i c low after) none in
                    let placed_c = there-times c placed (omega (arith, once)) in
                    absurd (false≢true (sym unmet ∙ all.used.all_met c i (used_there c placed_c) low after))
                | inr is ↦ omega (arith, is)
              ]);
            },
          );
    }

    pub set_below : (b : ℕ) → Contains set b → b < count
    set_below b there = elim (cases_lt b (length numbers)) [
      | inl low ↦ rw (sym len) low
      | inr high ↦ absurd (let more = (set_is b).0 there in let past = get_or_past numbers b 0 high in omega (arith, more, past))
    ]
