-- The prefixes of the labels that insert all elements that they need.
use Rattle.std.specs.Prelude.{◌≡◌, ◌<◌, ◌≤◌, ℕ, List, length, get_or, Contains, Option, Some}
use Rattle.ra_labels.specs.declared.operation.Op.{Op}
use Rattle.ra_rga_precedence.specs.Operations.{inserted_at, needed_at}

-- holds if each element that a label of the prefix needs is inserted by a label of it
abbrev pub IsComplete : List Op → ℕ → Type 0
IsComplete operations count = (n x : ℕ) → n < count → needed_at operations n ≡ Some x
    → (m : ℕ) × (m < count) × (inserted_at operations m ≡ Some x)

-- holds if these are the lengths of all prefixes up to a bound that insert what they need, in ascending order from zero
pub record AreCompleteCounts (operations : List Op) (bound : ℕ) (counts : List ℕ) : Type 0 where
  pub some : 0 < length counts
  pub start : get_or counts 0 0 ≡ 0
  pub ascend : (i j : ℕ) → i < j → j < length counts → get_or counts i 0 < get_or counts j 0
  pub each : (i : ℕ) → i < length counts → (get_or counts i 0 ≤ bound) × IsComplete operations (get_or counts i 0)
  pub all : (count : ℕ) → count ≤ bound → IsComplete operations count → Contains counts count

-- holds if this is for each element the first label of a range that inserts it
pub record AreFirstInserters (operations : List Op) (from to : ℕ) (inserter : ℕ → Option ℕ) : Type 0 where
  pub found : (x n : ℕ) → inserter x ≡ Some n → (n < to) × (inserted_at operations n ≡ Some x)
  pub first : (m x : ℕ) → from ≤ m → m < to → inserted_at operations m ≡ Some x
      → (n : ℕ) × (inserter x ≡ Some n) × (n ≤ m)
