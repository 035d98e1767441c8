-- Using a placed label: each condition that it meets is met.
use Rattle.std.proofs.Common.{◌≡◌, ℕ, ◌+◌, ◌<◌, ◌≤◌, Bool, true, false, List, [], ◌∷◌, ◌++◌, length, get_or, take, drop, set, refl, sym, ap, ◌∙◌, subst, inl, inr, arith, length-append}
use Rattle.std.specs.Prelude.{◌⊎◌, Contains}
use Rattle.std.proofs.lemmas.List.{take_more, take-append-le, take-append-drop, append_assoc, append-nil, get_or-set_same}
use Rattle.std.proofs.lemmas.List.Elements.{Contains-get_or, Contains-append_left, Contains-append_right, Contains-append_cases}
use Rattle.ra_labels.proofs.Members.{head_or_behind, at_head, none_there}
use Rattle.ra_precedence.specs.Conditions.{Condition, condition_at}
use Rattle.ra_precedence.specs.Placing.{AreUses, IsMet, ArePlaced, AreUsed}
use Rattle.ra_precedence.proofs.Steps.{stays_met, placed_now, grown}

-- the elements of a longer part of a list
pub in_more : (xs : List ℕ) (i y : ℕ) → i < length xs → Contains (take (i + 1) xs) y
    → Contains (take i xs) y ⊎ (get_or xs i 0 ≡ y)
in_more xs i y within there =
    elim (Contains-append_cases (take i xs) (get_or xs i 0 ∷ []) y (subst (λ ys. Contains ys y) (take_more xs i 0 within) there)) [
      | inl before ↦ inl before
      | inr last ↦ elim (head_or_behind (get_or xs i 0) [] y last) [
        | inl here ↦ inr here
        | inr further ↦ absurd (none_there y further)
      ]
    ]

pub still_in : (xs : List ℕ) (i y : ℕ) → i < length xs → Contains (take i xs) y → Contains (take (i + 1) xs) y
still_in xs i y within there = subst (λ ys. Contains ys y) (sym (take_more xs i 0 within))
    (Contains-append_left (take i xs) (get_or xs i 0 ∷ []) y there)

pub last_in : (xs : List ℕ) (i : ℕ) → i < length xs → Contains (take (i + 1) xs) (get_or xs i 0)
last_in xs i within = subst (λ ys. Contains ys (get_or xs i 0)) (sym (take_more xs i 0 within))
    (Contains-append_right (take i xs) (get_or xs i 0 ∷ []) (get_or xs i 0) (at_head (get_or xs i 0) [] (get_or xs i 0) refl))

pub in_take : (n : ℕ) (xs : List ℕ) (y : ℕ) → Contains (take n xs) y → Contains xs y
in_take n xs y there =
    subst (λ ys. Contains ys y) (take-append-drop n xs) (Contains-append_left (take n xs) (drop n xs) y there)

-- what is known while the next label is used: the conditions at some indexes are met by now
pub record AreUsing (conditions : List Condition) (met_old : List Bool) (order : List ℕ) (next : ℕ) (indexes : List ℕ)
    (met : List Bool) (numbers placed : List ℕ) : Type 0 where
  pub are : ArePlaced conditions met numbers placed (take (next + 1) order)
  pub met_by_now : (i : ℕ) → Contains indexes i → get_or met i false ≡ true
  pub stay_met : (i : ℕ) → get_or met_old i false ≡ true → get_or met i false ≡ true
  pub more : List ℕ
  pub placed_is : placed ≡ order ++ more

pub using_none : (conditions : List Condition) (met : List Bool) (numbers order : List ℕ) (next : ℕ) → next < length order
    → AreUsed conditions met numbers order next → AreUsing conditions met order next [] met numbers order
using_none conditions met numbers order next low used = record {
  are =
      let old = used.placed_are in
      record {
        met_len = old.met_len;
        numbers_are = old.numbers_are;
        once = old.once;
        below = old.below;
        by = λ i is. let (c, after, mine) = old.by i is in (c, after, still_in order next c low mine);
        in_turn = old.in_turn;
      };
  met_by_now = λ i there. absurd (none_there i there);
  stay_met = λ i is. is;
  more = [];
  placed_is = sym (append-nil order);
}

-- the first labels are the same with more behind them
first_same : (order more placed : List ℕ) (n : ℕ) → n ≤ length order → placed ≡ order ++ more → take n placed ≡ take n order
first_same order more placed n low is = ap (take n) is ∙ take-append-le n order more low

pub placed_first : (order more placed : List ℕ) (n x : ℕ) → n ≤ length order → placed ≡ order ++ more
    → Contains (take n order) x → Contains placed x
placed_first order more placed n x low is there =
    subst (λ xs. Contains xs x) (sym is) (Contains-append_left order more x (in_take n order x there))

module _ (conditions : List Condition) (met_old met met_now : List Bool) (order numbers now placed placed_now_list : List ℕ)
    (next k : ℕ) (indexes : List ℕ) (low : next < length order) (within : k < length indexes)
    (there : get_or indexes k 0 < length conditions)
    (uses : Contains (condition_at conditions (get_or indexes k 0)).after (get_or order next 0))
    (using_so_far : AreUsing conditions met_old order next (take k indexes) met numbers placed)
    (as_long : length now ≡ length numbers)
    (is : IsMet conditions (get_or indexes k 0) met met_now numbers now placed placed_now_list) where
  abbrev index : ℕ
  index = get_or indexes k 0

  met_same : (i : ℕ) → get_or met_now i false ≡ get_or (set met index true) i false
  met_same i = ap (λ m. get_or m i false) is.met_is

  index_met : get_or met_now index false ≡ true
  index_met = met_same index ∙ get_or-set_same met index true false (rw using_so_far.are.met_len there)

  pub using_more : AreUsing conditions met_old order next (take (k + 1) indexes) met_now now placed_now_list
  using_more =
      let (grew, grew_is) = grown conditions met met_now numbers now placed placed_now_list (take (next + 1) order) index
      (get_or order next 0) there uses (last_in order next low)
      (λ x mine. placed_first order using_so_far.more placed (next + 1) x (omega (arith, low)) using_so_far.placed_is mine)
      as_long using_so_far.are is in
      record {
        are = placed_now conditions met met_now numbers now placed placed_now_list (take (next + 1) order) index
            (get_or order next 0) there uses (last_in order next low)
            (λ x mine. placed_first order using_so_far.more placed (next + 1) x (omega (arith, low)) using_so_far.placed_is mine)
            as_long using_so_far.are is;
        met_by_now = λ i mine. elim (in_more indexes k i within mine) [
          | inl before ↦ met_same i ∙ stays_met met index i (using_so_far.met_by_now i before)
          | inr here ↦ subst (λ j. get_or met_now j false ≡ true) here index_met
        ];
        stay_met = λ i old. met_same i ∙ stays_met met index i (using_so_far.stay_met i old);
        more = using_so_far.more ++ grew;
        placed_is = grew_is ∙ ap (λ xs. xs ++ grew) using_so_far.placed_is ∙ append_assoc order using_so_far.more grew;
      }

pub used_all : (conditions : List Condition) (uses : List (List ℕ)) (met_old met : List Bool)
    (numbers_old numbers order placed : List ℕ) (next : ℕ) → next < length order → AreUses conditions uses
    → AreUsed conditions met_old numbers_old order next
    → AreUsing conditions met_old order next (get_or uses (get_or order next 0) []) met numbers placed
    → AreUsed conditions met numbers placed (next + 1)
used_all conditions uses met_old met numbers_old numbers order placed next low uses_are used using_all =
    let same = first_same order using_all.more placed (next + 1) (omega (arith, low)) using_all.placed_is in
    record {
      placed_are = subst (ArePlaced conditions met numbers placed) (sym same) using_all.are;
      all_met = λ c i mine there after.
          elim (in_more order next c low (subst (λ xs. Contains xs c) same mine)) [
            | inl before ↦ using_all.stay_met i (used.all_met c i before there after)
            | inr here ↦
                using_all.met_by_now i
                (subst (λ label. Contains (get_or uses label []) i) (sym here) ((uses_are c i).1 (there, after)))
          ];
    }

-- an index in a label's uses is that of a condition that has the label in `after`
pub used_index : (conditions : List Condition) (uses : List (List ℕ)) (label k : ℕ) (indexes : List ℕ)
    → AreUses conditions uses → indexes ≡ get_or uses label [] → k < length indexes
    → (get_or indexes k 0 < length conditions) × Contains (condition_at conditions (get_or indexes k 0)).after label
used_index conditions uses label k indexes uses_are is within =
    (uses_are label (get_or indexes k 0)).0 (subst (λ xs. Contains xs (get_or indexes k 0)) is (Contains-get_or indexes k 0 within))

pub grown_long : (conditions : List Condition) (met_old met : List Bool) (order numbers placed indexes : List ℕ) (next : ℕ)
    → next < length order → AreUsing conditions met_old order next indexes met numbers placed → next < length placed
grown_long conditions met_old met order numbers placed indexes next low using_all =
    let long = ap length using_all.placed_is ∙ length-append order using_all.more in
    omega (arith, low, long)
