-- Lemmas on which labels of a set can be the last one of it: those that are free when all labels but the set are placed.
use Rattle.std.proofs.Common.{◌≡◌, ℕ, ◌+◌, ◌<◌, ◌≤◌, Bool, true, false, List, [], ◌∷◌, ◌++◌, length, get_or, take, filter, reverse, refl, sym, ap, ◌∙◌, subst, inl, inr, arith, length-append}
use Rattle.std.specs.Prelude.{◌==◌, Contains}
use Rattle.std.proofs.lemmas.Bool.{false≢true, cases_Bool, cases_eq, eq-eqb, ne_eqb, cond-false, eqb-true}
use Rattle.std.proofs.lemmas.List.{take_all, length-take-le, get_or-take}
use Rattle.std.proofs.lemmas.List.Elements.{Contains-get_or, Contains-append_left, Contains-append_right, Contains-append_cases}
use Rattle.ra_labels.specs.Edges.{EachOnce, IsBefore}
use Rattle.ra_labels.proofs.Members.{head_or_behind, at_head, behind_head, none_there, kept-there, there-kept, split_at}
use Rattle.ra_precedence.specs.Conditions.{Condition, no_condition, condition_at, MeetsAll, HasEachBelow, NameOnlyBelow}
use Rattle.ra_precedence.specs.Placing.{times, open_count, AllArePlaced}
use Rattle.ra_precedence.specs.Lasts.{IsOrderFor, IsLastOf, AreLasts, AreOpenOnce, holding}
use Rattle.ra_precedence.proofs.Times.{one_if, one_if-is, one_if-not, times_head, times_append, times_none, times-there, there-times, each_once, once_each, behind_there}
use Rattle.ra_precedence.proofs.OpenCounts.{open_some, open_zero}
use Rattle.ra_precedence.proofs.ReadAt.{read_at}
use Rattle.ra_precedence.proofs.Solutions.{placed_times, before_reverse, in_reverse, from_reverse, times_reverse}
use Rattle.ra_precedence.proofs.Steps.{before_left, before_seam}
use Rattle.ra_precedence.proofs.StuckSets.{none_last, once_behind, head_not_behind}
use Rattle.ra_precedence.proofs.Using.{in_take}
use Rattle.ra_precedence.proofs.HeldSets.{before_right, before_kept, times_kept, before_rest, rest_once, at_low, at_last, low_or_last, within_held, named_held, open_split}

module _ (count : ℕ) (conditions : List Condition) (set numbers placed : List ℕ) (named : NameOnlyBelow count conditions)
    (below : (b : ℕ) → Contains set b → b < count) (once : EachOnce set) (len : length numbers ≡ count)
    (all : AllArePlaced (conditions ++ holding set ∷ []) numbers placed) where
  abbrev n : ℕ
  n = length conditions

  -- whether the condition at an index is met in the end
  abbrev is_met_at : ℕ → Bool
  is_met_at i = get_or all.met i false

  met_len : length all.met ≡ n + 1
  met_len = all.used.placed_are.met_len ∙ length-append conditions (holding set ∷ [])

  never_met : is_met_at n ≡ false
  never_met = elim (cases_Bool (is_met_at n)) [
    | inl is ↦
        let (c, after, used) = all.used.placed_are.by n is in
        absurd (none_there c (subst (λ (h : Condition). Contains h.after c) (at_last count conditions set) after))
    | inr not_met ↦ not_met
  ]

  placed_of_zero : (b : ℕ) → b < count → get_or numbers b 0 ≡ 0 → times b placed ≡ 1
  placed_of_zero =
      placed_times count (conditions ++ holding set ∷ []) numbers placed (named_held count conditions set named below) len all

  zero_of_placed : (b : ℕ) → Contains placed b → get_or numbers b 0 ≡ 0
  zero_of_placed b there = elim (cases_eq (get_or numbers b 0) 0) [
    | inl is ↦ is
    | inr some ↦
        let none = all.used.placed_are.once b (all.used.placed_are.below b there)
        ∙ cond-false (get_or numbers b 0 == 0) 1 0 (ne_eqb (get_or numbers b 0) 0 some) in
        let more = times-there b placed there in
        absurd (omega (arith, none, more))
  ]

  placed_below : (b : ℕ) → Contains placed b → b < count
  placed_below b there = rw (sym len) (all.used.placed_are.below b there)

  placed_once : (b : ℕ) → times b placed ≤ 1
  placed_once b = elim (cases_eq (times b placed) 0) [
    | inl none ↦ omega (arith, none)
    | inr some ↦
        let there = there-times b placed (omega (arith, some)) in
        let is = placed_of_zero b (placed_below b there) (zero_of_placed b there) in
        omega (arith, is)
  ]

  -- the number of a label of the set, of which one is due to the condition that holds the set back
  number_in : (b : ℕ) → Contains set b → get_or numbers b 0 ≡ open_count conditions (take n all.met) b + 1
  number_in b there =
      let is = all.used.placed_are.numbers_are b in
      let split = open_split conditions (holding set) all.met b met_len never_met in
      let most = once_each set once b in
      let some = times-there b set there in
      omega (arith, is, split, most, some)

  not_placed : (b : ℕ) → Contains set b → times b placed ≡ 0
  not_placed b there = elim (cases_eq (times b placed) 0) [
    | inl none ↦ none
    | inr some ↦
        let zero_is = zero_of_placed b (there-times b placed (omega (arith, some))) in
        let more = number_in b there in
        absurd (omega (arith, zero_is, more))
  ]

  first_len : length (take n all.met) ≡ n
  first_len = length-take-le n all.met (omega (arith, met_len))

  met_in_first : (i : ℕ) → i < n → get_or (take n all.met) i false ≡ is_met_at i
  met_in_first i low = get_or-take n all.met i false low

  used_if_placed : (c : ℕ) → Contains placed c → Contains (take (length placed) placed) c
  used_if_placed c there = subst (λ xs. Contains xs c) (sym (take_all (length placed) placed (omega arith))) there

  -- a condition that a placed label can meet is met
  met_by_placed : (i c : ℕ) → i < n → Contains placed c → Contains (condition_at conditions i).after c
      → is_met_at i ≡ true
  met_by_placed i c low there after =
      all.used.all_met c i (used_if_placed c there) (within_held count conditions set i low)
      (subst (λ (h : Condition). Contains h.after c) (sym (at_low count conditions set i low)) after)

  -- a condition that is met has a placed label
  placed_of_met : (i : ℕ) → i < n → is_met_at i ≡ true
      → (c : ℕ) × Contains (condition_at conditions i).after c × Contains placed c
  placed_of_met i low is =
      let (c, after, used) = all.used.placed_are.by i is in (
        c,
        subst (λ (h : Condition). Contains h.after c) (at_low count conditions set i low) after,
        in_take (length placed) placed c used,
      )

  -- the conditions of a label of the set are met exactly if its number is 1
  met_if_one : (w : ℕ) → Contains set w → get_or numbers w 0 ≡ 1 → (i : ℕ) → i < n
      → Contains (condition_at conditions i).before w → is_met_at i ≡ true
  met_if_one w member one i low there =
      let is = number_in w member in
      sym (met_in_first i low) ∙ open_zero conditions (take n all.met) i w first_len (omega (arith, one, is)) low there

  one_if_met : (w : ℕ) → Contains set w
      → ((i : ℕ) → i < n → Contains (condition_at conditions i).before w → is_met_at i ≡ true)
      → get_or numbers w 0 ≡ 1
  one_if_met w member each = elim (cases_eq (open_count conditions (take n all.met) w) 0) [
    | inl none ↦ let is = number_in w member in omega (arith, none, is)
    | inr some ↦
        let (i, low, unmet, there) = open_some conditions (take n all.met) w first_len (omega (arith, some)) in
        absurd (false≢true (sym unmet ∙ met_in_first i low ∙ each i low there))
  ]

  -- ---- a label whose number is 1 is the last one of the set in some order: what was placed stands behind it
  module _ (w : ℕ) (member : Contains set w) (one : get_or numbers w 0 ≡ 1) (old : List ℕ)
      (each : HasEachBelow count old) (meets : MeetsAll old conditions) where
    abbrev right : List ℕ
    right = w ∷ reverse placed

    abbrev is_left : ℕ → Bool
    is_left b = times b right == 0

    abbrev left : List ℕ
    left = filter is_left old

    abbrev order_to : List ℕ
    order_to = left ++ right

    right_times : (b : ℕ) → times b right ≡ one_if b w + times b placed
    right_times b = times_head b w (reverse placed) ∙ ap (λ k. one_if b w + k) (times_reverse b placed)

    right_once : (b : ℕ) → times b right ≤ 1
    right_once b = elim (cases_eq w b) [
      | inl same ↦
          let none = not_placed b (subst (Contains set) same member) in
          let is = right_times b in
          omega (arith, none, is, one_if-is b w same)
      | inr other ↦
          let most = placed_once b in
          let is = right_times b in
          omega (arith, most, is, one_if-not b w other)
    ]

    in_left : (b : ℕ) → b < count → times b right ≡ 0 → Contains left b
    in_left b low none = kept-there is_left old b ((each.all b).0 low) (eq-eqb (times b right) 0 none)

    left_not_right : (b : ℕ) → Contains left b → times b right ≡ 0
    left_not_right b there = eqb-true (times b right) 0 (there-kept is_left old b there).1

    right_below : (b : ℕ) → Contains right b → b < count
    right_below b there = elim (head_or_behind w (reverse placed) b there) [
      | inl here ↦ below b (subst (Contains set) here member)
      | inr further ↦ placed_below b (from_reverse b placed further)
    ]

    each_to : HasEachBelow count order_to
    each_to = record {
      once = each_once order_to (λ b.
          let both = times_append b left right in
          elim (cases_eq (times b right) 0) [
            | inl none ↦
                let kept = times_kept is_left old b in
                let most = once_each old each.once b in
                omega (arith, both, none, kept, most)
            | inr some ↦
                let gone = times_none b left (λ there. some (left_not_right b there)) in
                let most = right_once b in
                omega (arith, both, gone, most)
          ]);
      all = λ b. (
        (λ low. elim (cases_eq (times b right) 0) [
          | inl none ↦ Contains-append_left left right b (in_left b low none)
          | inr some ↦ Contains-append_right left right b (there-times b right (omega (arith, some)))
        ]),
        (λ there. elim (Contains-append_cases left right b there) [
          | inl first ↦ (each.all b).1 (there-kept is_left old b first).0
          | inr second ↦ right_below b second
        ]),
      );
    }

    -- each condition is met, by its index
    met_at : (i : ℕ) → i < n → (b : ℕ) → Contains (condition_at conditions i).before b
        → (c : ℕ) × Contains (condition_at conditions i).after c × IsBefore order_to b c
    met_at i low b mine = elim (cases_eq (times b right) 0) [
      | inl none ↦
          let first = in_left b (named.before i b low mine) none in
          let (c, after, stands) = meets (condition_at conditions i) (Contains-get_or conditions i no_condition low) b mine in (
            c,
            after,
            elim (cases_eq (times c right) 0) [
              | inl neither ↦
                  before_left left right b c
                  (before_kept is_left old b c (eq-eqb (times b right) 0 none) (eq-eqb (times c right) 0 neither) stands)
              | inr some ↦ before_seam left right b c first (there-times c right (omega (arith, some)))
            ],
          )
      | inr some ↦ elim (head_or_behind w (reverse placed) b (there-times b right (omega (arith, some)))) [
        | inl here ↦
            let (c, after, there) = placed_of_met i low
            (met_if_one w member one i low (subst (Contains (condition_at conditions i).before) (sym here) mine)) in
            (c, after, before_right left right b c (inl (here, in_reverse c placed there)))
        | inr further ↦
            let (c, after, stands) = all.used.placed_are.in_turn i b (within_held count conditions set i low)
            (from_reverse b placed further)
            (subst (λ (h : Condition). Contains h.before b) (sym (at_low count conditions set i low)) mine) in (
              c,
              subst (λ (h : Condition). Contains h.after c) (at_low count conditions set i low) after,
              before_right left right b c (inr (before_reverse placed c b stands)),
            )
      ]
    ]

    meets_to : MeetsAll order_to conditions
    meets_to condition (i, low, is) b before =
        let same : condition ≡ condition_at conditions i = read_at conditions i no_condition condition low (sym is) in
        let (c, after, stands) = met_at i low b (subst (λ (h : Condition). Contains h.before b) same before) in
        (c, subst (λ (h : Condition). Contains h.after c) (sym same) after, stands)

    last_to : IsLastOf order_to set w
    last_to = record {
      member = member;
      last = λ m there other.
          let none = not_placed m there in
          let is = right_times m in
          before_seam left right m w
          (in_left m (below m there) (omega (arith, none, is, one_if-not m w (λ same. other (sym same)))))
          (at_head w (reverse placed) w refl);
    }

    pub some_order : (order : List ℕ) × IsOrderFor count conditions order × IsLastOf order set w
    some_order = (order_to, (each_to, meets_to), last_to)

  -- ---- in an order in which a label is the last one of the set all labels behind it were placed
  module _ (w : ℕ) (front rest : List ℕ) (each : HasEachBelow count (front ++ w ∷ rest))
      (meets : MeetsAll (front ++ w ∷ rest) conditions) (is : IsLastOf (front ++ w ∷ rest) set w) where
    abbrev order : List ℕ
    order = front ++ w ∷ rest

    once_from : EachOnce (w ∷ rest)
    once_from = rest_once front (w ∷ rest) each.once

    not_behind : ¬ Contains rest w
    not_behind = head_not_behind w rest once_from

    -- what stands behind a later label is later than w
    further : (b c : ℕ) → Contains (w ∷ rest) b → IsBefore order b c → Contains rest c
    further b c there stands = elim (before_rest front (w ∷ rest) b c each.once there stands) [
      | inl both ↦ both.1
      | inr later ↦ behind_there rest b c later
    ]

    later_both : (b c : ℕ) → Contains rest b → IsBefore order b c → IsBefore rest b c
    later_both b c there stands = elim (before_rest front (w ∷ rest) b c each.once (behind_head w rest b there) stands) [
      | inl both ↦ absurd (not_behind (subst (Contains rest) (sym both.0) there))
      | inr later ↦ later
    ]

    abbrev is_left_out : ℕ → Bool
    is_left_out b = times b placed == 0

    abbrev left_out : List ℕ
    left_out = filter is_left_out rest

    -- a later label that was not placed stands before another one that was not
    next : (b : ℕ) → Contains left_out b → Contains rest b → (c : ℕ) × Contains left_out c × IsBefore rest b c
    next b among there =
        let none = eqb-true (times b placed) 0 (there-kept is_left_out rest b among).1 in
        let low = (each.all b).1 (Contains-append_right front (w ∷ rest) b (behind_head w rest b there)) in
        let some : 0 < open_count (conditions ++ holding set ∷ []) all.met b =
        elim (cases_eq (get_or numbers b 0) 0) [
          | inl zero_is ↦ let placed_it = placed_of_zero b low zero_is in absurd (omega (arith, none, placed_it))
          | inr more ↦ let number = all.used.placed_are.numbers_are b in omega (arith, more, number)
        ] in
        let (i, within, unmet, mine) = open_some (conditions ++ holding set ∷ []) all.met b all.used.placed_are.met_len some in
        elim (low_or_last count conditions set i within) [
          | inl first ↦
              let (c, after, stands) = meets (condition_at conditions i) (Contains-get_or conditions i no_condition first) b
              (subst (λ (h : Condition). Contains h.before b) (at_low count conditions set i first) mine) in
              let behind = further b c (behind_head w rest b there) stands in (
                c,
                kept-there is_left_out rest c behind (elim (cases_eq (times c placed) 0) [
                  | inl neither ↦ eq-eqb (times c placed) 0 neither
                  | inr placed_it ↦
                      absurd (false≢true (sym unmet
                      ∙ met_by_placed i c first (there-times c placed (omega (arith, placed_it))) after))
                ]),
                later_both b c there stands,
              )
          | inr last ↦
              let in_set = subst (λ (h : Condition). Contains h.before b)
              (ap (condition_at (conditions ++ holding set ∷ [])) last ∙ at_last count conditions set) mine in
              elim (cases_eq b w) [
                | inl same ↦ absurd (not_behind (subst (Contains rest) same there))
                | inr other ↦
                    absurd (not_behind (further b w (behind_head w rest b there) (is.last b in_set other)))
              ]
        ]

    all_placed : (c : ℕ) → Contains rest c → Contains placed c
    all_placed c there = elim (cases_eq (times c placed) 0) [
      | inl none ↦
          absurd (none_last left_out rest (once_behind w rest once_from) next c
          (kept-there is_left_out rest c there (eq-eqb (times c placed) 0 none)) there)
      | inr some ↦ there-times c placed (omega (arith, some))
    ]

    pub number_is_one : get_or numbers w 0 ≡ 1
    number_is_one = one_if_met w is.member (λ i low there.
        let (c, after, stands) = meets (condition_at conditions i) (Contains-get_or conditions i no_condition low) w there in
        met_by_placed i c low (all_placed c (further w c (at_head w rest w refl) stands)) after)

  pub are_lasts : (found : List ℕ) → AreOpenOnce numbers set found → AreLasts count conditions set found
  are_lasts found once_open some w = (
    (λ there.
        let (member, one) = (once_open w).0 there in
        some_order w member (eqb-true (get_or numbers w 0) 1 one) some.0 some.1.0 some.1.1),
    (λ last.
        let (order, (each_in, meets_in), is) = last in
        let (front, rest, split) = split_at order w ((each_in.all w).0 (below w is.member)) in
        (once_open w).1 (
          is.member,
          eq-eqb (get_or numbers w 0) 1
              (number_is_one w front rest (subst (HasEachBelow count) split each_in)
              (subst (λ xs. MeetsAll xs conditions) split meets_in) (subst (λ xs. IsLastOf xs set w) split is)),
        )),
  )
