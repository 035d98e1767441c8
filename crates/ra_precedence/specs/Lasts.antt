-- Which labels of a set can be the last one of it.
use Rattle.std.specs.Prelude.{◌≡◌, ◌<◌, ◌+◌, ◌^◌, ◌==◌, ◌↔◌, ℕ, true, List, [], length, get_or, Contains}
use Rattle.ra_labels.specs.Edges.{IsBefore}
use Rattle.ra_precedence.specs.declared.solver.Solver.{Solver}
use Rattle.ra_precedence.specs.Conditions.{Condition, MeetsAll, HasEachBelow, NameOnlyBelow}
use Rattle.ra_precedence.specs.Placing.{times, open_count, AreOpenCounts, AreUses}

-- holds if the order has each label below the count once and meets the conditions
abbrev pub IsOrderFor : ℕ → List Condition → List ℕ → Type 0
IsOrderFor count conditions order = HasEachBelow count order × MeetsAll order conditions

-- holds if the label is one of the set, and each other one of the set stands before it
pub record IsLastOf (order set : List ℕ) (w : ℕ) : Type 0 where
  pub member : Contains set w
  pub last : (m : ℕ) → Contains set m → ¬ (m ≡ w) → IsBefore order m w

-- Holds if the labels are exactly those of the set that are the last one of it in some order of all labels that meets
-- the conditions. If no order meets them, nothing is said.
abbrev pub AreLasts : ℕ → List Condition → List ℕ → List ℕ → Type 0
AreLasts count conditions set lasts = ((order : List ℕ) × IsOrderFor count conditions order)
    → (w : ℕ) → Contains lasts w ↔ ((order : List ℕ) × IsOrderFor count conditions order × IsLastOf order set w)

-- how many labels there are
abbrev pub count_of : Solver → ℕ
count_of solver = length solver.counts.items

-- holds if what a solver keeps is that of its conditions
pub record IsReady (solver : Solver) : Type 0 where
  pub named : NameOnlyBelow (count_of solver) solver.conditions.items
  pub uses : AreUses solver.conditions.items solver.uses
  pub lists : length solver.uses ≡ count_of solver
  pub counts : AreOpenCounts solver.conditions.items [] solver.counts.items
  pub fits : count_of solver < 2 ^ 32

-- the condition that no order meets: each label of the set stands before one of none
abbrev pub holding : List ℕ → Condition
holding set = record { before = set; after = [] }

-- holds if these are the labels of the set whose number is 1
abbrev pub AreOpenOnce : List ℕ → List ℕ → List ℕ → Type 0
AreOpenOnce numbers set found =
    (w : ℕ) → Contains found w ↔ (Contains set w × ((get_or numbers w 0 == 1) ≡ true))

-- holds if the numbers count all conditions but one, by which each label of the set is open once more
abbrev pub AreAllButHeld : List Condition → List ℕ → List ℕ → Type 0
AreAllButHeld conditions numbers set =
    (b : ℕ) → get_or numbers b 0 + times b set ≡ open_count conditions [] b
