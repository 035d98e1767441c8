-- Lemmas on when a sequence extends an order of its parts, piece by piece.
use Rattle.std.proofs.Common.{◌≡◌, Bool, true, false, List, [], ◌∷◌, ◌++◌, refl, ap, ◌∙◌, arith}
use Rattle.std.specs.Prelude.{◌&&◌, not, Contains}
use Rattle.std.specs.List.{list_all}
use Rattle.std.proofs.lemmas.Bool.{and_parts, and_from, not_from_false}
use Rattle.std.proofs.lemmas.List.Folds.{list_all-append}
use Rattle.ra_labels.specs.Linearization.{extends}
use Rattle.ra_labels.proofs.InLists.{list_all-from_contains}
use Rattle.ra_labels.proofs.Members.{behind_head}
use Rattle.ra_labels.proofs.Parts.{extends-first, extends-behind, extends-apart}

module _ {A : Type 0} where
  -- no later element must precede an earlier one
  pub record Apart (precedes : A → A → Bool) (xs ys : List A) : Type 0 where
    pub none : (p q : A) → Contains xs p → Contains ys q → precedes q p ≡ false

  -- a sequence of two pieces extends the order exactly if both pieces do and no part of the second must precede one of
  -- the first
  pub extends_pieces : (precedes : A → A → Bool) (xs ys : List A) → extends precedes (xs ++ ys) ≡ true
      → (extends precedes xs ≡ true) × (extends precedes ys ≡ true) × Apart precedes xs ys
  extends_pieces precedes xs ys extended =
      (extends-first precedes xs ys extended, extends-behind precedes xs ys extended, record { none = extends-apart precedes xs ys extended })

  pub extends_joined : (precedes : A → A → Bool) (xs ys : List A) → extends precedes xs ≡ true → extends precedes ys ≡ true → Apart precedes xs ys
      → extends precedes (xs ++ ys) ≡ true
  extends_joined precedes [] ys first then apart = then
  extends_joined precedes (x ∷ xs) ys first then apart =
      let clear : A → Bool = λ q. not (precedes q x) in
      let both = and_parts (list_all clear xs) (extends precedes xs) first in
      and_from (list_all clear (xs ++ ys)) (extends precedes (xs ++ ys))
      (list_all-append clear xs ys
      ∙ and_from (list_all clear xs) (list_all clear ys) both.0
      (list_all-from_contains clear ys (λ q there. not_from_false (precedes q x) (apart.none x q (0, omega arith, refl) there))))
      (extends_joined precedes xs ys both.1 then (record { none = λ p q found there. apart.none p q (behind_head x xs p found) there }))

  all_same : (p r : A → Bool) (xs : List A) → ((y : A) → Contains xs y → p y ≡ r y) → list_all p xs ≡ list_all r xs
  all_same p r [] same = refl
  all_same p r (x ∷ xs) same =
      ap (λ b. b && list_all p xs) (same x (0, omega arith, refl))
      ∙ ap (λ b. r x && b) (all_same p r xs (λ y there. same y (behind_head x xs y there)))

  -- a sequence extends two orders alike if they agree on its elements
  pub extends_same : (precedes other : A → A → Bool) (xs : List A) → ((p q : A) → Contains xs p → Contains xs q → precedes q p ≡ other q p)
      → extends precedes xs ≡ extends other xs
  extends_same precedes other [] same = refl
  extends_same precedes other (x ∷ xs) same =
      let heads : list_all (λ q. not (precedes q x)) xs ≡ list_all (λ q. not (other q x)) xs = all_same (λ q. not (precedes q x)) (λ q. not (other q x)) xs (λ q there. ap not (same x q (0, omega arith, refl) (behind_head x xs q there))) in
      ap (λ b. b && extends precedes xs) heads
      ∙ ap (λ b. list_all (λ q. not (other q x)) xs && b) (extends_same precedes other xs (λ p q found there. same p q (behind_head x xs p found) (behind_head x xs q there)))
