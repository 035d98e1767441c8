-- How a list is compared with a view: its elements' numbers, and the shown ones among them, each hidden once it is met.
use Rattle.std.specs.Prelude.{◌≡◌, ℕ, ◌<◌, ◌+◌, ◌-◌, ◌⊎◌, List, [], ◌∷◌, length, get_or, set, Contains}
use Rattle.ra_list_replica.specs.declared.mark.Mark.{Mark}
use Rattle.ra_list_replica.specs.declared.mark.Mark.TheVariants.{Shown, Removed}
use Rattle.ra_list_replica.specs.View.{mark_at}

-- holds if each of the numbers is shown when those before it are hidden
abbrev pub AreShownInTurn : List Mark → List ℕ → Type 0
AreShownInTurn marks [] = Unit {0}
AreShownInTurn marks (n ∷ numbers) = (mark_at marks n ≡ Shown) × AreShownInTurn (set marks n Removed) numbers

-- the marks with these numbers hidden
abbrev pub hidden : List Mark → List ℕ → List Mark
hidden marks [] = marks
hidden marks (n ∷ numbers) = hidden (set marks n Removed) numbers

-- the marks with these numbers shown
abbrev pub shown : List Mark → List ℕ → List Mark
shown marks [] = marks
shown marks (n ∷ numbers) = shown (set marks n Shown) numbers

-- holds if the second number stands directly behind the first one
abbrev pub IsAdjacent : List ℕ → ℕ → ℕ → Type 0
IsAdjacent numbers m n = (k : ℕ) × (k + 1 < length numbers) × (get_or numbers k 0 ≡ m) × (get_or numbers (k + 1) 0 ≡ n)

-- holds if each number but the first, except at these places, is directly behind the one before it in the last list too
pub record AreAsLast (last numbers places : List ℕ) : Type 0 where
  pub within : (i : ℕ) → Contains places i → (0 < i) × (i < length numbers)
  pub rest : (i : ℕ) → 0 < i → i < length numbers
      → Contains places i ⊎ IsAdjacent last (get_or numbers (i - 1) 0) (get_or numbers i 0)
