-- Lemmas on the ways that lead from insertions to others above them.
use Rattle.std.proofs.Common.{◌≡◌, ℕ, ◌<◌, ◌≤◌, List, [], ◌∷◌, Option, Some, None, length, get_or, sym, ap, subst, ◌∙◌, inl, inr, arith}
use Rattle.std.specs.Prelude.{◌⊎◌, IfSome}
use Rattle.std.proofs.lemmas.Option.{same_Some}
use Rattle.ra_rga_precedence.specs.Ranks.{AreNeedRanks}
use Rattle.ra_rga_precedence.specs.Relations.{IsNeedWay, LeadsTo, AreApart}
use Rattle.ra_rga_precedence.specs.UpdateConditions.{AreBelow}

-- ways can be joined
pub joined : (needed : List (Option ℕ)) (a b c : ℕ) → LeadsTo needed a b → LeadsTo needed b c → LeadsTo needed a c
joined needed a b c ([], is) second = subst (λ k. LeadsTo needed k c) (sym is) second
joined needed a b c (m ∷ way, (up, rest)) second =
    let (whole, leads) = joined needed m b c (way, rest) second in (m ∷ whole, (up, leads))

-- of two that one label leads to, one leads to the other
pub linear : (needed : List (Option ℕ)) (x a b : ℕ) → LeadsTo needed x a → LeadsTo needed x b
    → LeadsTo needed a b ⊎ LeadsTo needed b a
linear needed x a b ([], is) second = inl (subst (λ k. LeadsTo needed k b) is second)
linear needed x a b first ([], is) = inr (subst (λ k. LeadsTo needed k a) is first)
linear needed x a b (m ∷ way, (up, rest)) (n ∷ other, (also, further)) =
    let same : m ≡ n = same_Some m n (sym up ∙ also) in
    linear needed m a b (way, rest) (other, subst (λ k. IsNeedWay needed k other b) (sym same) further)

module _ (needed : List (Option ℕ)) (ranks : List ℕ) (below : AreBelow (length needed) needed)
    (ranked : AreNeedRanks needed ranks) where
  up_low : (n m : ℕ) → get_or needed n None ≡ Some m → m < length needed
  up_low n m is = subst (λ o. IfSome o (λ k. k < length needed)) is (below n)

  -- ways lead to lower ranks
  pub lower : (a b : ℕ) → a < length needed → LeadsTo needed a b → get_or ranks b 0 ≤ get_or ranks a 0
  lower a b within ([], is) = let same = ap (λ k. get_or ranks k 0) is in omega (arith, same)
  lower a b within (m ∷ way, (up, rest)) =
      let falls = ranked.falls a m within up in
      let further = lower m b (up_low a m up) (way, rest) in
      omega (arith, falls, further)

  pub low_end : (a b : ℕ) → a < length needed → LeadsTo needed a b → b < length needed
  low_end a b within ([], is) = subst (λ k. k < length needed) is within
  low_end a b within (m ∷ way, (up, rest)) = low_end m b (up_low a m up) (way, rest)

  -- two that lead to each other are the same
  pub both_ways : (a b : ℕ) → a < length needed → LeadsTo needed a b → LeadsTo needed b a → a ≡ b
  both_ways a b within ([], is) back = is
  both_ways a b within (m ∷ way, (up, rest)) back =
      let falls = ranked.falls a m within up in
      let further = lower m b (up_low a m up) (way, rest) in
      let again = lower b a (low_end a b within (m ∷ way, (up, rest))) back in
      absurd (omega (arith, falls, further, again))

  -- of two that need the same, none leads to the other one
  level : (l r : ℕ) → l < length needed → r < length needed → get_or needed l None ≡ get_or needed r None
      → LeadsTo needed l r → l ≡ r
  level l r l_low r_low same ([], is) = is
  level l r l_low r_low same (m ∷ way, (up, rest)) =
      let falls = ranked.falls r m r_low (sym same ∙ up) in
      let further = lower m r (up_low l m up) (way, rest) in
      absurd (omega (arith, falls, further))

  pub siblings : (x l r : ℕ) → x < length needed → LeadsTo needed x l → LeadsTo needed x r
      → get_or needed l None ≡ get_or needed r None → l ≡ r
  siblings x l r within first second same =
      let l_low = low_end x l within first in
      let r_low = low_end x r within second in
      elim (linear needed x l r first second) [
        | inl down ↦ level l r l_low r_low same down
        | inr up ↦ sym (level r l r_low l_low (sym same) up)
      ]

  -- two that are apart: none leads to the other one
  pub never_under : (first second left right : ℕ) → first < length needed → AreApart needed first second left right
      → ¬ LeadsTo needed first second
  never_under first second left right within are leads =
      are.apart (siblings first left right within are.under_left
      (joined needed first second right leads are.under_right) are.together)

  pub turned : (first second left right : ℕ) → AreApart needed first second left right
      → AreApart needed second first right left
  turned first second left right are = record {
    apart = λ is. are.apart (sym is);
    together = sym are.together;
    under_left = are.under_right;
    under_right = are.under_left;
  }

  -- one way further up, both are under the same
  not_further : (first second left right l r : ℕ) → second < length needed
      → AreApart needed first second left right → AreApart needed first second l r → LeadsTo needed l left → l ≡ left
  not_further first second left right l r within are other ([], is) = is
  not_further first second left right l r within are other (m ∷ way, (up, rest)) =
      let under = joined needed second r left other.under_right (m ∷ way, (sym other.together ∙ up, rest)) in
      absurd (are.apart (siblings second left right within under are.under_right are.together))

  pub only_left : (first second left right l r : ℕ) → first < length needed → second < length needed
      → AreApart needed first second left right → AreApart needed first second l r → l ≡ left
  only_left first second left right l r first_low second_low are other =
      elim (linear needed first l left other.under_left are.under_left) [
        | inl leads ↦ not_further first second left right l r second_low are other leads
        | inr leads ↦ sym (not_further first second l r left right second_low other are leads)
      ]

  pub only_right : (first second left right l r : ℕ) → first < length needed → second < length needed
      → AreApart needed first second left right → AreApart needed first second l r → r ≡ right
  only_right first second left right l r first_low second_low are other =
      only_left second first right left r l second_low first_low (turned first second left right are)
      (turned first second l r other)
