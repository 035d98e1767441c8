-- Lemmas on properties of all elements of a list, and of a list with one more element.
use Rattle.std.proofs.Common.{ℕ, zero, suc, ◌<◌, List, [], ◌∷◌, ◌++◌, length, get_or, arith}
use Rattle.std.specs.Prelude.{set}
use Rattle.std.specs.List.{AllByRecursion, insert}

module _ {A : Type 0} (P : A → Type 0) where
  pub each_append : (xs ys : List A) → AllByRecursion P xs → AllByRecursion P ys → AllByRecursion P (xs ++ ys)
  each_append [] ys first then = then
  each_append (x ∷ xs) ys first then = (first.0, each_append xs ys first.1 then)

  pub each_left : (xs ys : List A) → AllByRecursion P (xs ++ ys) → AllByRecursion P xs
  each_left [] ys each = tt
  each_left (x ∷ xs) ys each = (each.0, each_left xs ys each.1)

  pub each_right : (xs ys : List A) → AllByRecursion P (xs ++ ys) → AllByRecursion P ys
  each_right [] ys each = each
  each_right (x ∷ xs) ys each = each_right xs ys each.1

  pub each_at : (xs : List A) (k : ℕ) (d : A) → AllByRecursion P xs → k < length xs → P (get_or xs k d)
  each_at [] k d each there = absurd (omega arith)
  each_at (x ∷ xs) zero d each there = each.0
  each_at (x ∷ xs) (suc k) d each there = each_at xs k d each.1 (omega arith)

  pub each_from : (xs : List A) → ((k : ℕ) (d : A) → k < length xs → P (get_or xs k d)) → AllByRecursion P xs
  each_from [] at = tt
  each_from (x ∷ xs) at = (at 0 x (omega arith), each_from xs (λ k d there. at (suc k) d (omega arith)))

  pub each_insert : (xs : List A) (p : ℕ) (e : A) → AllByRecursion P xs → P e → AllByRecursion P (insert xs p e)
  each_insert [] zero e each this = (this, tt)
  each_insert [] (suc p) e each this = (this, tt)
  each_insert (x ∷ xs) zero e each this = (this, each)
  each_insert (x ∷ xs) (suc p) e each this = (each.0, each_insert xs p e each.1 this)

  pub each_set : (xs : List A) (p : ℕ) (e : A) → AllByRecursion P xs → P e → AllByRecursion P (set xs p e)
  each_set [] p e each this = tt
  each_set (x ∷ xs) zero e each this = (this, each.1)
  each_set (x ∷ xs) (suc p) e each this = (each.0, each_set xs p e each.1 this)

pub each_weaker : {A : Type 0} (P Q : A → Type 0) → ((x : A) → P x → Q x) → (xs : List A) → AllByRecursion P xs
    → AllByRecursion Q xs
each_weaker P Q weaker [] each = tt
each_weaker P Q weaker (x ∷ xs) each = (weaker x each.0, each_weaker P Q weaker xs each.1)
