-- The number of shown elements, and numbers that are hidden one after another.
use Rattle.std.proofs.Common.{◌≡◌, ℕ, zero, suc, ◌+◌, ◌≤◌, ◌⊎◌, cond, List, [], ◌∷◌, length, set, refl, sym, ap, ◌∙◌, subst, inl, inr, arith, zero-add}
use Rattle.std.specs.Prelude.{Contains}
use Rattle.std.proofs.lemmas.Bool.{cases_eq, cases_lt}
use Rattle.std.proofs.lemmas.List.{get_or_past, get_or-set_same, get_or-set_other, length-set}
use Rattle.std.proofs.lemmas.List.Sums.{sum_by-set, sum_by-cons}
use Rattle.ra_labels.proofs.Members.{head_or_behind, at_head, behind_head, none_there}
use Rattle.ra_list_replica.specs.declared.mark.Mark.{Mark}
use Rattle.ra_list_replica.specs.declared.mark.Mark.TheVariants.{Missing, Shown, Removed}
use Rattle.ra_list_replica.specs.View.{mark_at, is_shown, shown_count}
use Rattle.ra_list_replica.specs.Listing.{AreShownInTurn, hidden}
use Rattle.ra_list_replica.proofs.Turns.{shown_below}

-- a hidden number is not shown
pub hidden_itself : (marks : List Mark) (n : ℕ) → ¬ (mark_at (set marks n Removed) n ≡ Shown)
hidden_itself marks n is = elim (cases_lt n (length marks)) [
  | inl below ↦ removed (sym (get_or-set_same marks n Removed Missing below) ∙ is)
  | inr past ↦ missing (sym (get_or_past (set marks n Removed) n Missing
      (subst (λ k. k ≤ n) (sym (length-set marks n Removed)) past)) ∙ is)
]
  where
    removed : Removed ≡ Shown → ⊥
    removed same = cc

    missing : Missing ≡ Shown → ⊥
    missing same = cc

-- another one is as before
pub hidden_other : (marks : List Mark) (m n : ℕ) → ¬ (n ≡ m) → mark_at (set marks m Removed) n ≡ mark_at marks n
hidden_other marks m n other = get_or-set_other marks m n Removed Missing other

-- a number that is still shown is not the hidden one, and was shown before
pub still_shown : (marks : List Mark) (m n : ℕ) → mark_at (set marks m Removed) n ≡ Shown
    → ¬ (n ≡ m) × (mark_at marks n ≡ Shown)
still_shown marks m n is = elim (cases_eq n m) [
  | inl same ↦ absurd (hidden_itself marks m (subst (λ k. mark_at (set marks m Removed) k ≡ Shown) same is))
  | inr other ↦ (other, sym (hidden_other marks m n other) ∙ is)
]

-- each of the numbers was shown
pub each_shown : (marks : List Mark) (ns : List ℕ) (n : ℕ) → AreShownInTurn marks ns → Contains ns n
    → mark_at marks n ≡ Shown
each_shown marks [] n all there = absurd (none_there n there)
each_shown marks (m ∷ ns) n all there = elim (head_or_behind m ns n there) [
  | inl here ↦ subst (λ k. mark_at marks k ≡ Shown) here all.0
  | inr further ↦ (still_shown marks m n (each_shown (set marks m Removed) ns n all.1 further)).1
]

-- a shown number is among those that are hidden, or still shown
pub hidden_or_shown : (marks : List Mark) (ns : List ℕ) (n : ℕ) → mark_at marks n ≡ Shown
    → Contains ns n ⊎ (mark_at (hidden marks ns) n ≡ Shown)
hidden_or_shown marks [] n is = inr is
hidden_or_shown marks (m ∷ ns) n is = elim (cases_eq n m) [
  | inl same ↦ inl (at_head m ns n (sym same))
  | inr other ↦ elim (hidden_or_shown (set marks m Removed) ns n (hidden_other marks m n other ∙ is)) [
    | inl there ↦ inl (behind_head m ns n there)
    | inr still ↦ inr still
  ]
]

-- none of those that are hidden is still shown, and what is still shown was shown before
pub none_hidden_shown : (marks : List Mark) (ns : List ℕ) (n : ℕ) → mark_at (hidden marks ns) n ≡ Shown
    → ¬ Contains ns n × (mark_at marks n ≡ Shown)
none_hidden_shown marks [] n is = (none_there n, is)
none_hidden_shown marks (m ∷ ns) n is =
    let rest = none_hidden_shown (set marks m Removed) ns n is in
    let one = still_shown marks m n rest.1 in (
      (λ there. elim (head_or_behind m ns n there) [
        | inl here ↦ one.0 (sym here)
        | inr further ↦ rest.0 further
      ]),
      one.1,
    )

-- hiding a shown number takes one from the count
pub count_hidden : (marks : List Mark) (n : ℕ) → mark_at marks n ≡ Shown
    → shown_count marks ≡ suc (shown_count (set marks n Removed))
count_hidden marks n is =
    let shown : ℕ = 1 in
    let one : cond (is_shown (mark_at marks n)) 1 0 ≡ shown = ap (λ m. cond (is_shown m) 1 0) is in
    omega (arith, one, sum_by-set (λ m. cond (is_shown m) 1 0) marks n Removed Missing (shown_below marks n is))

pub count_all_hidden : (marks : List Mark) (ns : List ℕ) → AreShownInTurn marks ns
    → shown_count marks ≡ length ns + shown_count (hidden marks ns)
count_all_hidden marks [] all = sym (zero-add (shown_count marks))
count_all_hidden marks (n ∷ ns) all =
    let long : length (n ∷ ns) ≡ suc (length ns) = refl in
    omega (arith, count_hidden marks n all.0, count_all_hidden (set marks n Removed) ns all.1)

-- the count is 0 where none is shown
pub none_counted : (marks : List Mark) → ((n : ℕ) → ¬ (mark_at marks n ≡ Shown)) → shown_count marks ≡ 0
none_counted [] none = refl
none_counted (Shown ∷ marks) none = absurd (none zero refl)
none_counted (Missing ∷ marks) none =
    sum_by-cons (λ m. cond (is_shown m) 1 0) Missing marks ∙ zero-add (shown_count marks)
    ∙ none_counted marks (λ n. none (suc n))
none_counted (Removed ∷ marks) none =
    sum_by-cons (λ m. cond (is_shown m) 1 0) Removed marks ∙ zero-add (shown_count marks)
    ∙ none_counted marks (λ n. none (suc n))

-- as many numbers as are shown, each shown and none twice, are all that are shown
pub all_where_as_many : (marks : List Mark) (ns : List ℕ) → AreShownInTurn marks ns → length ns ≡ shown_count marks
    → (n : ℕ) → mark_at marks n ≡ Shown → Contains ns n
all_where_as_many marks ns all as_many n is = elim (hidden_or_shown marks ns n is) [
  | inl there ↦ there
  | inr still ↦ absurd (omega (arith, as_many, count_all_hidden marks ns all, count_hidden (hidden marks ns) n still))
]

-- and there are as many as are shown where each that is shown is among them
pub as_many_where_all : (marks : List Mark) (ns : List ℕ) → AreShownInTurn marks ns
    → ((n : ℕ) → mark_at marks n ≡ Shown → Contains ns n) → length ns ≡ shown_count marks
as_many_where_all marks ns all each =
    let none = none_counted (hidden marks ns) (λ n still.
    let before = none_hidden_shown marks ns n still in before.0 (each n before.1)) in
    omega (arith, none, count_all_hidden marks ns all)
