-- Numbers that are hidden one after another, each shown before, and then shown again.
use Rattle.std.proofs.Common.{◌≡◌, ℕ, zero, suc, ◌<◌, List, [], ◌∷◌, ◌++◌, length, get_or, set, take, refl, sym, ap, ◌∙◌, subst, inl, inr, arith}
use Rattle.std.specs.Prelude.{Contains}
use Rattle.std.proofs.lemmas.Bool.{cases_eq, cases_lt}
use Rattle.std.proofs.lemmas.List.{get_or_past, length-set, set-set, set_comm, set-get_or}
use Rattle.ra_labels.proofs.Members.{head_or_behind}
use Rattle.ra_list_replica.specs.declared.mark.Mark.{Mark}
use Rattle.ra_list_replica.specs.declared.mark.Mark.TheVariants.{Missing, Shown, Removed}
use Rattle.ra_list_replica.specs.View.{mark_at}
use Rattle.ra_list_replica.specs.Listing.{AreShownInTurn, hidden, shown}

pub hidden-push : (marks : List Mark) (ns : List ℕ) (n : ℕ)
    → hidden marks (ns ++ n ∷ []) ≡ set (hidden marks ns) n Removed
hidden-push marks [] n = refl
hidden-push marks (m ∷ ns) n = hidden-push (set marks m Removed) ns n

pub shown-push : (marks : List Mark) (ns : List ℕ) (n : ℕ)
    → shown marks (ns ++ n ∷ []) ≡ set (shown marks ns) n Shown
shown-push marks [] n = refl
shown-push marks (m ∷ ns) n = shown-push (set marks m Shown) ns n

pub in_turn-push : (marks : List Mark) (ns : List ℕ) (n : ℕ) → AreShownInTurn marks ns
    → mark_at (hidden marks ns) n ≡ Shown → AreShownInTurn marks (ns ++ n ∷ [])
in_turn-push marks [] n before is = (is, tt)
in_turn-push marks (m ∷ ns) n before is = (before.0, in_turn-push (set marks m Removed) ns n before.1 is)

-- each is shown when those before it are hidden
pub in_turn-at : (marks : List Mark) (ns : List ℕ) (k : ℕ) → AreShownInTurn marks ns → k < length ns
    → mark_at (hidden marks (take k ns)) (get_or ns k 0) ≡ Shown
in_turn-at marks [] k all below = absurd (omega arith)
in_turn-at marks (n ∷ ns) zero all below = all.0
in_turn-at marks (n ∷ ns) (suc k) all below = in_turn-at (set marks n Removed) ns k all.1 (omega arith)

-- a shown number is that of a mark
pub shown_below : (marks : List Mark) (n : ℕ) → mark_at marks n ≡ Shown → n < length marks
shown_below marks n is = elim (cases_lt n (length marks)) [
  | inl below ↦ below
  | inr past ↦ absurd (missing (sym (get_or_past marks n Missing past) ∙ is))
]
  where
    missing : Missing ≡ Shown → ⊥
    missing same = cc

pub in_turn_below : (marks : List Mark) (ns : List ℕ) (n : ℕ) → AreShownInTurn marks ns → Contains ns n
    → n < length marks
in_turn_below marks [] n all there = absurd (omega (arith, there.1))
in_turn_below marks (m ∷ ns) n all there = elim (head_or_behind m ns n there) [
  | inl here ↦ subst (λ x. x < length marks) here (shown_below marks m all.0)
  | inr further ↦ subst (λ k. n < k) (length-set marks m Removed) (in_turn_below (set marks m Removed) ns n all.1 further)
]

shown-set : (marks : List Mark) (n : ℕ) (ns : List ℕ) → shown (set marks n Shown) ns ≡ set (shown marks ns) n Shown
shown-set marks n [] = refl
shown-set marks n (m ∷ ns) = elim (cases_eq n m) [
  | inl same ↦ ap (λ k. shown (set (set marks k Shown) m Shown) ns) same
      ∙ shown-set (set marks m Shown) m ns
      ∙ ap (λ k. set (shown (set marks m Shown) ns) k Shown) (sym same)
  | inr other ↦ ap (λ ms. shown ms ns) (set_comm marks n m Shown Shown other) ∙ shown-set (set marks m Shown) n ns
]

-- what was hidden is shown again
pub restored : (marks : List Mark) (ns : List ℕ) → AreShownInTurn marks ns → shown (hidden marks ns) ns ≡ marks
restored marks [] all = refl
restored marks (n ∷ ns) all =
    shown-set (hidden (set marks n Removed) ns) n ns
    ∙ ap (λ ms. set ms n Shown) (restored (set marks n Removed) ns all.1)
    ∙ set-set marks n Removed Shown
    ∙ ap (set marks n) (sym all.0)
    ∙ set-get_or marks n Missing

pub hidden_long : (marks : List Mark) (ns : List ℕ) → length (hidden marks ns) ≡ length marks
hidden_long marks [] = refl
hidden_long marks (n ∷ ns) = hidden_long (set marks n Removed) ns ∙ length-set marks n Removed
