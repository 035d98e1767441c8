-- Lemma on the resource that a seat carries.
use Rattle.std.proofs.Common.{◌≡◌, ℕ, List, [], ◌∷◌, Option, Some, ap}

module _ {M : Type 0} where
  abbrev carried_first : Option M → List (ℕ × Option M) → Option M
  carried_first none_there [] = none_there
  carried_first none_there (x ∷ xs) = x.1

  pub carries_one : (a b : M) → ◌≡◌ {A = List (ℕ × Option M)} ((0, Some a) ∷ []) ((0, Some b) ∷ []) → a ≡ b
  carries_one a b e = let same : Some a ≡ Some b = ap (carried_first (Some a)) e in cc
