-- Lemmas on the tickets in a log, before and after a step.
use Rattle.std.proofs.Common.{◌≡◌, ℕ, zero, suc, ◌+◌, ◌<◌, List, []}
use Rattle.std.proofs.Common.{◌∷◌, Some, option_map, slice_get, length, ◌-◌, subst, arith}
use Rattle.ra_journal.specs.declared.entry.Entry.{Entry}
use Rattle.ra_journal.specs.Log.{AllBelow, IsAboveLast}

module _ {C R : Type 0} where
  at_below : (log : List (Entry C R)) (t k : ℕ) → AllBelow t log → (x : ℕ)
      → option_map (λ (e : Entry C R). e.ticket) (slice_get log k) ≡ Some x → x < t
  at_below [] t k below x e = absurd (cc)
  at_below (y ∷ ys) t zero below x e = let is : y.ticket ≡ x = cc in
      subst (λ (n : ℕ). n < t) is (below 0 y (omega arith))
  at_below (y ∷ ys) t (suc k) below x e = at_below ys t k (λ j d l. below (suc j) d (omega arith)) x e

  -- a ticket greater than all is greater than the last one
  pub above_last : (log : List (Entry C R)) (t : ℕ) → AllBelow t log → IsAboveLast log t
  above_last log t below = at_below log t (length log - 1) below

  pub below_more : (log : List (Entry C R)) (t : ℕ) → AllBelow t log → AllBelow (t + 1) log
  below_more log t below k d l = let b = below k d l in omega arith
