-- Arrays of numbers indexed by element.
use Rattle.std.specs.Prelude.{◌≡◌, ℕ, List, get_or}

-- the number of each element: 0 past the end
abbrev pub number_in : List ℕ → ℕ → ℕ
number_in numbers x = get_or numbers x 0

-- holds if the element now has this number, and each other one has the same number as before
pub record IsSetTo (element number : ℕ) (old new : ℕ → ℕ) : Type 0 where
  pub here : new element ≡ number
  pub apart : (x : ℕ) → ¬ (x ≡ element) → new x ≡ old x
