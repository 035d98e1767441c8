-- Lemmas on a list in which one element is replaced by two.
use Rattle.std.proofs.Common.{◌≡◌, ℕ, zero, suc, ◌+◌, ◌<◌, List, [], ◌∷◌, length, refl, ap, ◌∙◌, arith}
use Rattle.std.specs.Prelude.{set}
use Rattle.std.specs.List.{insert}

abbrev pub halved : {A : Type 0} → List A → ℕ → A → A → List A
halved [] at left right = []
halved (x ∷ xs) zero left right = left ∷ right ∷ xs
halved (x ∷ xs) (suc at) left right = x ∷ halved xs at left right

step : (at : ℕ) → suc at + 1 ≡ suc (at + 1)
step at = omega arith

pub halved_is : {A : Type 0} (xs : List A) (at : ℕ) (left right : A) → at < length xs
    → insert (set xs at left) (at + 1) right ≡ halved xs at left right
halved_is [] at left right there = absurd (omega arith)
halved_is (x ∷ xs) zero left right there = refl
halved_is (x ∷ xs) (suc at) left right there =
    ap (λ k. insert (set (x ∷ xs) (suc at) left) k right) (step at) ∙ ap (λ ys. x ∷ ys) (halved_is xs at left right (omega arith))

pub length_halved : {A : Type 0} (xs : List A) (at : ℕ) (left right : A) → at < length xs
    → length (halved xs at left right) ≡ length xs + 1
length_halved [] at left right there = absurd (omega arith)
length_halved (x ∷ xs) zero left right there = omega arith
length_halved (x ∷ xs) (suc at) left right there = omega (arith, length_halved xs at left right (omega arith))
